use Rattle.std.proofs.Common.{◌≡◌, ◌++◌, length, map}
use Rattle.acta_words.specs.Text.{text_of}
use Rattle.acta_words.specs.inside.LinesToCome.{lines_to_come}
use Rattle.acta_session.specs.Remarks.{bar_line}
use Rattle.acta_session.proofs.remarks.push_bars.Given as goal

-- the lines so far, and the rest
abbrev pub invariant-loop-line : goal.invariant-loop-line
invariant-loop-line g l =
    l.text.items ++ text_of (map bar_line (lines_to_come l.lines))
    ≡ l.initial.text.items ++ text_of (map bar_line (lines_to_come l.initial.lines))

abbrev pub decreases-loop-line : goal.decreases-loop-line
decreases-loop-line g l = length (lines_to_come l.lines)
