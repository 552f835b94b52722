use Rattle.std.proofs.Common.{length}
use Rattle.std.specs.List.{range_with_len}
use Rattle.acta_compare.specs.OnlyIn.{IsOnlyIn}
use Rattle.acta_compare.proofs.Selecting.{IsSoFar}
use Rattle.acta_compare.proofs.only.only_in.Given as goal

-- the ends so far
abbrev pub invariant-loop-place : goal.invariant-loop-place
invariant-loop-place g l =
    IsSoFar (IsOnlyIn l.explored.outcomes l.other.outcomes) (range_with_len 0 (length l.explored.ends)) l.place l.places.items
