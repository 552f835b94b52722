use Rattle.std.proofs.Common.{◌≡◌, ◌≤◌, ◌+◌, length, drop}
use Rattle.acta_words.specs.Text.{lines_of}
use Rattle.acta_words.specs.inside.LinesToCome.{lines_to_come}
use Rattle.acta_io.proofs.sections.drop_lines.Given as goal

-- as many lines are still to be passed over as are left to count
abbrev pub invariant-loop-left : goal.invariant-loop-left
invariant-loop-left l = record {
  lines : drop l.left (lines_to_come l.lines) ≡ drop l.count (lines_of l.input);
  short : length (lines_to_come l.lines) ≤ length l.input + 1;
}

abbrev pub decreases-loop-left : goal.decreases-loop-left
decreases-loop-left l = l.left
