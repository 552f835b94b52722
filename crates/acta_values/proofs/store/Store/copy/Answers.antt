use Rattle.std.proofs.Common.{rules, ◌∙◌, List, sym, subst}
use Rattle.acta_sets.specs.Chains.{AreChained}
use Rattle.acta_sets.specs.declared.held_op.HeldOp.{HeldOp}
use Rattle.acta_values.proofs.store.Store.copy.Goals as goal

pub returns : goal.returns
returns g c = (λ i. record { kinds = (c.in_ok-from_slice.ensures.items ∙ c.as_slice.ensures.value) i; items = c.in_ok-copy.ensures i; lineage = (c.in_ok-copy-2.ensures i).lineage }) ∙ c.self.view_is

pub invariant_of-result : goal.invariant_of-result
invariant_of-result g c = record {
  after = search rules;
  chained = subst (λ (items : List HeldOp). AreChained items c.in_ok-copy-2.field-0) (sym c.in_ok-copy.ensures) (subst (AreChained c.self.inside.operations) (sym c.in_ok-copy-2.ensures) c.self.invariant.chained);
}
