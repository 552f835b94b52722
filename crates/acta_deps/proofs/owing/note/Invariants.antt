use Rattle.std.proofs.Common.{◌≤◌, length}
use Rattle.acta_deps.proofs.owing.note.Given as goal

-- the place is within the list
abbrev pub invariant-loop-place : goal.invariant-loop-place
invariant-loop-place g l = l.place ≤ length l.places

abbrev pub decreases-loop-place : goal.decreases-loop-place
decreases-loop-place g l = l.place
