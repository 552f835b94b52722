use Rattle.std.proofs.Common.{◌≡◌, ◌++◌, drop, filter, map}
use Rattle.acta_axioms.specs.declared.fault.Axiom.TheVariants.{Clash}
use Rattle.acta_axioms.specs.Faults.{faults_of}
use Rattle.acta_judge.specs.inside.Edges.{clashes_among, clashing_among}
use Rattle.acta_judge.proofs.clashes.report_clashes.Given as goal

-- the faults so far, with those by the debts ahead, are all
abbrev pub invariant-loop-debt : goal.invariant-loop-debt
invariant-loop-debt g l =
    l.faults.items ++ faults_of Clash l.clash.place (map (λ o. o.txn.0) (filter (clashes_among l.debts) (drop l.debt-index l.debts)))
    ≡ faults_of Clash l.clash.place (clashing_among l.debts)
