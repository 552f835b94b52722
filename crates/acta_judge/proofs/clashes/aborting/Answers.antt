use Rattle.std.proofs.Common.{◌+◌, ◌∙◌, ap, sym, fold, drop, map, filter, arith, List, ℕ}
use Rattle.std.specs.Prelude.{Some}
use Rattle.std.specs.BTreeSet.{insert_key}
use Rattle.std.specs.Ordering.{nat_cmp}
use Rattle.std.proofs.lemmas.List.{at_drop_more}
use Rattle.acta_table.specs.declared.dep.Owed.{Owed}
use Rattle.acta_table.proofs.AscendingSets.{one-put}
use Rattle.acta_table.specs.Dependencies.{is_abort}
use Rattle.acta_judge.proofs.clashes.aborting.Goals as goal

pub loop-debt-preserved : goal.loop-debt-preserved
loop-debt-preserved g c =
    let debts = c.args.debts.now in
    let test = λ (o : Owed). is_abort (Some o.missing) in
    let i = c.loop-debt.debt-index in
    let before = c.loop-debt.txns.keys in
    let rest = drop (i + 1) debts in
    ap (λ (keys : List ℕ). fold (insert_key nat_cmp) keys (map (λ (x : Owed). x.txn.0) (filter test rest))) c.in_ok-put_aborting.ensures
    ∙ one-put test (λ (x : Owed). x.txn.0) before _ rest
    ∙ sym (at_drop_more (λ (xs : List Owed). fold (insert_key nat_cmp) before (map (λ (x : Owed). x.txn.0) (filter test xs))) debts i _ (omega arith))
    ∙ c.loop-debt.invariant
