use Rattle.std.proofs.Common.{◌≡◌, ◌≤◌, ◌+◌, length, take, drop}
use Rattle.acta_words.specs.Text.{lines_of}
use Rattle.acta_words.specs.inside.LinesToCome.{lines_to_come}
use Rattle.acta_lang.specs.Drafts.{declared, nothing_yet}
use Rattle.acta_lang.specs.inside.Noted.{IsNoted, IsParsed, noted}
use Rattle.acta_lang.specs.inside.Abstraction.{abstraction}
use Rattle.acta_lang.proofs.Sound.{IsFaultless}
use Rattle.acta_lang.proofs.Turns.{meaning_from}
use Rattle.acta_lang.proofs.declare.declare_all.Given as goal

-- the meaning of the rest, after the draft, is that of the whole text; and the draft has the declarations of the lines read,
-- with their numbers
abbrev pub invariant-loop-line : goal.invariant-loop-line
invariant-loop-line g l = record {
  means : meaning_from (l.number + 1) (abstraction l.draft) (lines_to_come l.lines) ≡ meaning_from 1 nothing_yet (lines_of l.text);
  counts : l.number + length (lines_to_come l.lines) ≤ length l.text + 1;
  faultless : IsFaultless (abstraction l.draft);
  declares : abstraction l.draft ≡ declared (take l.number (lines_of l.text));
  notes : IsNoted (take l.number (lines_of l.text)) (noted l.draft);
  parsed : IsParsed (abstraction l.draft).current (noted l.draft).current;
  left : drop l.number (lines_of l.text) ≡ lines_to_come l.lines;
}

abbrev pub decreases-loop-line : goal.decreases-loop-line
decreases-loop-line g l = length (lines_to_come l.lines)
