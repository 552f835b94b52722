use Rattle.std.proofs.Common.{◌≡◌, drop, fold, map}
use Rattle.std.specs.BTreeSet.{insert_key}
use Rattle.std.specs.Ordering.{nat_cmp}
use Rattle.acta_table.specs.declared.event.TxnId.{TxnId}
use Rattle.acta_table.specs.Numbered.{ascending}
use Rattle.acta_machine.proofs.machine_state.txn_numbers.Given as goal

-- inserting the rest from here gives all
abbrev pub invariant-loop-txn : goal.invariant-loop-txn
invariant-loop-txn g l =
    fold (insert_key nat_cmp) l.numbers.keys (map (λ (t : TxnId). t.0) (drop l.txn-index l.txns)) ≡ ascending (map (λ (t : TxnId). t.0) l.txns)
