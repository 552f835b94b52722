use Rattle.acta_compare.specs.Differences.{Differs, compared}
use Rattle.acta_compare.proofs.Selecting.{IsSoFar}
use Rattle.acta_compare.proofs.differences.differing.Given as goal

-- the lines so far
abbrev pub invariant-loop-place : goal.invariant-loop-place
invariant-loop-place g l = IsSoFar Differs (compared l.numbers l.one l.other) l.place l.found.items
