use Rattle.std.proofs.Common.{◌≡◌, ◌++◌, drop, filter, map, not, ℕ}
use Rattle.acta_table.specs.Sets.{numbers_of}
use Rattle.acta_axioms.specs.Faults.{faults_of, has_number}
use Rattle.acta_axioms.specs.Operations.{access_set}
use Rattle.acta_judge.proofs.item_faults.report_unheld.Given as goal

-- the faults so far, with those by the operations ahead, are all
abbrev pub invariant-loop-op : goal.invariant-loop-op
invariant-loop-op g l =
    let is_unheld = λ (o : ℕ). not (has_number (map (λ q. q.number) (access_set l.walk.model l.walk.front l.t.0)) o) in
    l.faults.items ++ (faults_of l.breach.broken l.breach.place (filter is_unheld (numbers_of (drop l.op-index l.ops))))
    ≡ l.initial.faults.items ++ (faults_of l.breach.broken l.breach.place (filter is_unheld (numbers_of l.ops)))
