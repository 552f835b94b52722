use Rattle.std.proofs.Common.{◌≡◌, ◌<◌, ◌+◌, ◌^◌, ◌++◌, length, map}
use Rattle.acta_words.specs.inside.LinesToCome.{lines_to_come}
use Rattle.acta_io.specs.Input.{non_blank_from, numbered}
use Rattle.acta_io.proofs.input.non_blank_lines.Given as goal

-- the lines so far, followed by those to come, are all
abbrev pub invariant-loop-bytes : goal.invariant-loop-bytes
invariant-loop-bytes g l = record {
  lines : map numbered l.lines.items ++ non_blank_from (l.line + 1) (lines_to_come l.rest) ≡ non_blank_from 1 (lines_to_come l.initial.rest);
  counts : l.line + length (lines_to_come l.rest) < 2 ^ 64;
}

abbrev pub decreases-loop-bytes : goal.decreases-loop-bytes
decreases-loop-bytes g l = length (lines_to_come l.rest)
