use Rattle.std.proofs.Common.{◌≤◌}
use Rattle.acta_ends.proofs.reading.add_elements.Given as goal

-- the element that is being read begins at or before this byte
abbrev pub invariant-loop-place : goal.invariant-loop-place
invariant-loop-place g l = l.start ≤ l.place
