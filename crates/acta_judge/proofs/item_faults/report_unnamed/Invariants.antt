use Rattle.std.proofs.Common.{◌≡◌, ◌++◌, drop, filter, not}
use Rattle.acta_table.specs.Sets.{numbers_of, is_named}
use Rattle.acta_axioms.specs.Faults.{faults_of}
use Rattle.acta_judge.proofs.item_faults.report_unnamed.Given as goal

-- the faults so far, with those by the operations ahead, are all
abbrev pub invariant-loop-op : goal.invariant-loop-op
invariant-loop-op g l =
    l.faults.items ++ (faults_of l.breach.broken l.breach.place (filter (λ o. not (is_named l.ops o)) (numbers_of (drop l.op-index l.held))))
    ≡ l.initial.faults.items ++ (faults_of l.breach.broken l.breach.place (filter (λ o. not (is_named l.ops o)) (numbers_of l.held)))
