use Rattle.std.proofs.Common.{◌≡◌, ◌++◌, drop, map}
use Rattle.acta_axioms.specs.Faults.{faults_of}
use Rattle.acta_judge.proofs.reporting.Breach.report_each.Given as goal

-- the faults so far, with those by the operations ahead, are all
abbrev pub invariant-loop-op : goal.invariant-loop-op
invariant-loop-op g l =
    l.faults.items ++ (faults_of l.self.broken l.self.place (map (λ o. o.0) (drop l.op-index l.ops)))
    ≡ l.initial.faults.items ++ (faults_of l.self.broken l.self.place (map (λ o. o.0) l.ops))
