use Rattle.acta_explore.specs.inside.Shown.{shown}
use Rattle.acta_compare.proofs.Missing.{IsNotBefore}
use Rattle.acta_compare.proofs.only.has_outcome.Given as goal

-- none of the outcomes so far is this one
abbrev pub invariant-loop-place : goal.invariant-loop-place
invariant-loop-place g l = IsNotBefore l.explored.outcomes l.place (shown l.outcome)
