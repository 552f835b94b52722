use Rattle.std.proofs.Common.{◌≡◌, ◌++◌, drop}
use Rattle.acta_words.specs.Text.{text_of}
use Rattle.acta_ends.specs.EndLines.{lines_from, chose_lines}
use Rattle.acta_ends.proofs.lines.push_choices.Given as goal

-- what is written, with what is left, is what is wanted
abbrev pub invariant-loop-line : goal.invariant-loop-line
invariant-loop-line g l =
    l.text.items ++ text_of (lines_from (chose_lines l.lines l.numbers) l.line (drop l.line l.done)) ≡ l.initial.text.items ++ text_of (lines_from (chose_lines l.lines l.numbers) 0 l.done)
