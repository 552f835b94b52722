use Rattle.std.proofs.Common.{◌+◌, ◌∙◌, ap, sym, fold, drop, map, arith, List, ℕ}
use Rattle.std.specs.BTreeSet.{insert_key}
use Rattle.std.specs.Ordering.{nat_cmp}
use Rattle.std.proofs.lemmas.List.{at_drop_more}
use Rattle.acta_table.specs.declared.event.TxnId.{TxnId}
use Rattle.acta_machine.proofs.machine_state.txn_numbers.Goals as goal

pub loop-txn-preserved : goal.loop-txn-preserved
loop-txn-preserved g c =
    let txns = c.args.txns.now in
    let i = c.loop-txn.txn-index in
    let before = c.loop-txn.numbers.keys in
    let rest = drop (i + 1) txns in
    ap (λ (keys : List ℕ). fold (insert_key nat_cmp) keys (map (λ (t : TxnId). t.0) rest)) c.in_ok-insert.ensures.keys
    ∙ sym (at_drop_more (λ (ts : List TxnId). fold (insert_key nat_cmp) before (map (λ (t : TxnId). t.0) ts)) txns i _ (omega arith))
    ∙ c.loop-txn.invariant
