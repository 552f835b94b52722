use Rattle.std.proofs.Common.{◌≡◌, drop, fold, map, filter}
use Rattle.std.specs.Prelude.{Some}
use Rattle.std.specs.BTreeSet.{insert_key}
use Rattle.std.specs.Ordering.{nat_cmp}
use Rattle.acta_table.specs.declared.dep.Owed.{Owed}
use Rattle.acta_table.specs.Dependencies.{is_abort}
use Rattle.acta_judge.specs.inside.Edges.{aborting}
use Rattle.acta_judge.proofs.clashes.aborting.Given as goal

-- those by the debts that are left, put in from here, give all
abbrev pub invariant-loop-debt : goal.invariant-loop-debt
invariant-loop-debt g l =
    fold (insert_key nat_cmp) l.txns.keys (map (λ (o : Owed). o.txn.0) (filter (λ o. is_abort (Some o.missing)) (drop l.debt-index l.debts)))
    ≡ aborting l.debts
