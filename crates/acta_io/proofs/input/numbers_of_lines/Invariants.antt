use Rattle.std.proofs.Common.{◌≡◌, ◌<◌, ◌+◌, ◌^◌, ◌++◌, not, ◌==◌, length}
use Rattle.acta_table.specs.Numbered.{numbers_from}
use Rattle.acta_words.specs.Text.{words_of}
use Rattle.acta_words.specs.inside.LinesToCome.{lines_to_come}
use Rattle.acta_io.proofs.input.numbers_of_lines.Given as goal

-- the numbers so far, before those of the lines that are left, are all
abbrev pub invariant-loop-line : goal.invariant-loop-line
invariant-loop-line g l = record {
  numbers : l.numbers.items ++ numbers_from (λ line. not (length (words_of line) == 0)) (l.number + 1) (lines_to_come l.lines) ≡ numbers_from (λ line. not (length (words_of line) == 0)) 1 (lines_to_come l.initial.lines);
  counts : l.number + length (lines_to_come l.lines) < 2 ^ 64;
}

abbrev pub decreases-loop-line : goal.decreases-loop-line
decreases-loop-line g l = length (lines_to_come l.lines)
