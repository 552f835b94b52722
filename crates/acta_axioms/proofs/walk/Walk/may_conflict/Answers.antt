use Rattle.std.proofs.Common.{rules, ◌≡◌, ◌≤◌, ◌&&◌, true, false, ℕ, Some, List, length, sym, ap, subst, arith, ◌∙◌}
use Rattle.std.specs.List.{list_any}
use Rattle.std.proofs.lemmas.List.{length-take-le}
use Rattle.acta_table.specs.declared.event.TxnId.{TxnId}
use Rattle.acta_sets.specs.declared.held_op.HeldOp.{HeldOp}
use Rattle.acta_sets.specs.Lineages.{parent_in}
use Rattle.acta_sets.specs.Operations.{is_against_but}
use Rattle.acta_values.specs.Conflicts.{is_well_formed}
use Rattle.acta_values.proofs.Unconflicted.{none_if}
use Rattle.acta_axioms.specs.declared.txn_record.TxnRecord.{TxnRecord}
use Rattle.acta_axioms.specs.History.{parent_of}
use Rattle.acta_axioms.specs.Operations.{is_exempt}
use Rattle.acta_axioms.specs.Walks.{Walked, held_ops}
use Rattle.acta_axioms.specs.inside.Walking.{is_against}
use Rattle.acta_axioms.proofs.Searches.{exempt-remembered, none-conflicted}
use Rattle.acta_axioms.proofs.walk.Walk.may_conflict.Goals as goal

pub returns-then-not-may_conflict : goal.returns-then-not-may_conflict
returns-then-not-may_conflict g c = λ _.
    let m = c.args.self.now.model in
    let h = c.args.self.now.front in
    let t = c.args.t.0 in
    let object = c.args.object.0 in
    let op = c.args.op.now in
    let against = is_against_but t (is_exempt m h t object) object op in
    let items = c.self.invariant.items_are ∙ ap (λ (w : Walked g.row.A.Denot). held_ops w.model w.front) c.self.view_is in
    none-conflicted m h t object op (held_ops m h)
    (sym (ap (λ k. is_well_formed k object op && list_any against c.operations-operations.result.now) (ap (λ (w : Walked g.row.A.Denot). w.model) c.self.view_is)
    ∙ ap (λ (xs : List HeldOp). is_well_formed m object op && list_any against xs) (c.operations-operations.ensures.operations ∙ items))
    ∙ c.may_conflict.ensures (is_exempt m h t object) c.if-not-may_conflict.true)

pub returns : goal.returns
returns g c = λ clear.
    let m = c.args.self.now.model in
    let h = c.args.self.now.front in
    let t = c.args.t.0 in
    let object = c.args.object.0 in
    let op = c.args.op.now in
    let store = c.self.inside.store in
    let kept = c.self.inside.kept.now in
    let n = c.self.inside.taken in
    let items = c.self.invariant.items_are ∙ ap (λ (w : Walked g.row.A.Denot). held_ops w.model w.front) c.self.view_is in
    let long : length h ≡ n = sym (ap (λ (w : Walked g.row.A.Denot). length w.front) c.self.view_is) ∙ length-take-le n kept c.self.invariant.within in
    let low : store.lineage.most ≤ n = c.self.invariant.deep in
    let deep : store.lineage.most ≤ length h = omega (arith, long, low) in
    let right : (u : ℕ) (p : TxnId) → parent_in store.lineage u ≡ Some p → parent_of h u ≡ Some p =
    λ u p e. sym (ap (λ (line : TxnRecord). line.parent) (c.self.invariant.lines_are u) ∙ ap (λ (w : Walked g.row.A.Denot). parent_of w.front u) c.self.view_is) ∙ c.self.invariant.remembered u p e in
    let has = sym c.exempts_ancestors.ensures ∙ c.if-not-exempts_ancestors.false in
    let is : c.is_clear.result ≡ true = search rules in
    let none = c.is_clear.ensures (is_exempt m h t object) (exempt-remembered m h t object store.lineage has right deep) is in
    subst (λ (xs : List HeldOp). list_any (is_against m h t object op) xs ≡ false) items
    (none-conflicted m h t object op store.items (none_if (is_well_formed m object op) _ none))
