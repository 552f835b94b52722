use Rattle.acta_compare.specs.OnlyIn.{IsMissing}
use Rattle.acta_compare.proofs.Selecting.{IsSoFar}
use Rattle.acta_compare.proofs.owed.owed_only.Given as goal

-- the debts so far
abbrev pub invariant-loop-debt : goal.invariant-loop-debt
invariant-loop-debt g l = IsSoFar (IsMissing l.others.items) l.debt-items l.debt-index l.found.items
