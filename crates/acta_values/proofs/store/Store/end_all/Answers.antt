use Rattle.std.proofs.Common.{◌∙◌, List, sym, ap, subst}
use Rattle.acta_table.specs.declared.answer.Fate.TheVariants.{Aborted}
use Rattle.acta_sets.specs.declared.held_op.HeldOp.{HeldOp}
use Rattle.acta_sets.specs.Chains.{AreChained}
use Rattle.acta_sets.specs.Operations.{ended}
use Rattle.acta_values.specs.declared.store.Store.TheInside.{Inside}
use Rattle.acta_values.specs.KeptValues.{AreAfter, IsInOrder}
use Rattle.acta_sets.proofs.Chaining.{AreChained-ended}
use Rattle.acta_values.proofs.Equivalence.{committed_after, is_committed-closed}
use Rattle.acta_values.proofs.store.Store.end_all.Goals.{in-Aborted, in_default}
use Rattle.acta_values.proofs.store.Store.end_all.Goals as goal

pub invariant_of-self : goal.invariant_of-self
invariant_of-self g c =
    let chained = AreChained-ended c.self.inside.operations c.self.inside.chains c.args.t.0 c.args.fate c.requires c.self.invariant.chained in
    let before = c.self.inside in
    let kinds = before.kinds.items in
    elim c.match-fate.branch [
      | in-Aborted w ↦
          let same = w.operations-items.ensures.operations in
          let aborted = w.abort.ensures kinds (subst (λ (items : List HeldOp). AreAfter kinds items before.values) (sym same) c.self.invariant.after) in
          subst (λ (x : Inside g.row.A.Denot). IsInOrder x.kinds.items c.end_all.new.self x.values x.chains) (sym w.self-inside-is) (record {
            after =
                subst (λ (items : List HeldOp). AreAfter kinds items w.abort.new.self) (sym (c.end_all.ensures ∙ (λ i. ended c.args.t.0 (w.in-Aborted.is i) (w.self-inside-is i).operations) ∙ ap (ended c.args.t.0 Aborted) (sym same))) aborted;
            chained = subst (λ (items : List HeldOp). AreChained items before.chains) (sym (c.end_all.ensures ∙ (λ i. ended c.args.t.0 c.args.fate (w.self-inside-is i).operations))) chained;
          })
      | in_default w ↦
          let committed = is_committed-closed c.args.fate c.requires w.in_default.not-Aborted in
          subst (λ (x : Inside g.row.A.Denot). IsInOrder x.kinds.items c.end_all.new.self x.values x.chains) (sym w.self-inside-is) (record {
            after =
                subst (λ (items : List HeldOp). AreAfter kinds items before.values) (sym (c.end_all.ensures ∙ (λ i. ended c.args.t.0 (committed i) (w.self-inside-is i).operations))) (committed_after kinds before.operations before.values c.args.t.0 c.self.invariant.after);
            chained = subst (λ (items : List HeldOp). AreChained items before.chains) (sym (c.end_all.ensures ∙ (λ i. ended c.args.t.0 c.args.fate (w.self-inside-is i).operations))) chained;
          })
    ]
