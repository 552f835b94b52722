use Rattle.std.specs.Prelude.{◌≡◌}
use Rattle.std.proofs.Common.{rules, List, sym, subst}
use Rattle.acta_sets.specs.declared.held_op.HeldOp.{HeldOp}
use Rattle.acta_sets.specs.Operations.{moved}
use Rattle.acta_values.specs.KeptValues.{AreAfter, IsInOrder}
use Rattle.acta_values.proofs.Equivalence.{moved_after}
use Rattle.acta_values.proofs.store.Store.move_to.Goals as goal

-- on an error nothing was transferred
pub invariant_of-self : goal.invariant_of-self
invariant_of-self g c =
    let before = c.self.inside in
    let same : c.move_to.new.self ≡ before.operations = search rules in
    subst (λ (items : List HeldOp). IsInOrder before.kinds.items items before.values before.chains) (sym same) c.self.invariant

pub invariant_of-self-2 : goal.invariant_of-self-2
invariant_of-self-2 g c =
    let before = c.self.inside in
    let changed : c.move_to.new.self ≡ moved c.args.ops.now c.args.u before.operations = search rules in
    record {
      after = subst (λ (items : List HeldOp). AreAfter before.kinds.items items before.values) (sym changed) (moved_after before.kinds.items before.operations before.values c.args.ops.now c.args.u c.self.invariant.after);
      chained = c.forget.ensures.chained c.move_to.new.self;
    }
