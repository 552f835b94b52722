use Rattle.std.proofs.Common.{◌≡◌, ◌<◌, ◌+◌, ◌^◌, ◌++◌, length, map}
use Rattle.acta_words.specs.inside.LinesToCome.{lines_to_come}
use Rattle.acta_io.specs.Input.{non_blank_from, numbered, parsed_from}
use Rattle.acta_io.proofs.Lines.{put_before}
use Rattle.acta_io.proofs.input.read_left.Given as goal

-- the results so far, before those of the lines left, are the results of all lines
abbrev pub invariant-loop-bytes : goal.invariant-loop-bytes
invariant-loop-bytes g l = record {
  says : put_before l.parsed.items (parsed_from (g.L.LineReader.parsed l.reader) (l.number + 1) (lines_to_come l.rest)) ≡ parsed_from (g.L.LineReader.parsed l.reader) (l.taken + 1) (lines_to_come l.initial.rest);
  as_many : length l.lines.items ≡ length l.parsed.items;
  lines : map numbered l.lines.items ++ non_blank_from (l.number + 1) (lines_to_come l.rest) ≡ non_blank_from (l.taken + 1) (lines_to_come l.initial.rest);
  counts : l.number + length (lines_to_come l.rest) < 2 ^ 64;
}

abbrev pub decreases-loop-bytes : goal.decreases-loop-bytes
decreases-loop-bytes g l = length (lines_to_come l.rest)
