use Rattle.std.proofs.Common.{◌≤◌}
use Rattle.acta_ends.proofs.reading.read_terms.Given as goal

-- the term that is being read begins at or before this token
abbrev pub invariant-loop-place : goal.invariant-loop-place
invariant-loop-place g l = l.start ≤ l.place
