use Rattle.std.specs.Prelude.{◌≡◌, true}
use Rattle.std.proofs.Common.{rules, List, sym, subst}
use Rattle.acta_sets.specs.declared.held_op.HeldOp.{HeldOp}
use Rattle.acta_sets.specs.Operations.{transferred}
use Rattle.acta_values.specs.KeptValues.{AreAfter, IsInOrder}
use Rattle.acta_sets.specs.Chains.{AreChained}
use Rattle.acta_sets.proofs.Chaining.{AreChained-up}
use Rattle.acta_values.proofs.Equivalence.{transferred_after}
use Rattle.acta_values.proofs.store.Store.transfer_all.Goals as goal

-- on an error nothing was transferred
pub invariant_of-self : goal.invariant_of-self
invariant_of-self g c =
    let before = c.self.inside in
    let same : c.transfer_all.new.self ≡ before.operations = search rules in
    subst (λ (items : List HeldOp). IsInOrder before.kinds.items items before.values before.chains) (sym same) c.self.invariant

pub invariant_of-self-then-not-is_parent : goal.invariant_of-self-then-not-is_parent
invariant_of-self-then-not-is_parent g c =
    let before = c.self.inside in
    let changed : c.transfer_all.new.self ≡ transferred c.args.t.0 c.args.u before.operations = search rules in
    record {
      after = subst (λ (items : List HeldOp). AreAfter before.kinds.items items before.values) (sym changed) (transferred_after before.kinds.items before.operations before.values c.args.t.0 c.args.u c.self.invariant.after);
      chained = c.forget.ensures.chained c.transfer_all.new.self;
    }

-- what a child held, its parent may hold
pub invariant_of-self-else-not-is_parent : goal.invariant_of-self-else-not-is_parent
invariant_of-self-else-not-is_parent g c =
    let before = c.self.inside in
    let changed : c.transfer_all.new.self ≡ transferred c.args.t.0 c.args.u before.operations = search rules in
    let parent : c.is_parent.result ≡ true = search rules in
    record {
      after = subst (λ (items : List HeldOp). AreAfter before.kinds.items items before.values) (sym changed) (transferred_after before.kinds.items before.operations before.values c.args.t.0 c.args.u c.self.invariant.after);
      chained = subst (λ (items : List HeldOp). AreChained items before.chains) (sym changed) (AreChained-up before.operations before.chains c.args.t.0 c.args.u (c.is_parent.ensures parent) c.self.invariant.chained);
    }
