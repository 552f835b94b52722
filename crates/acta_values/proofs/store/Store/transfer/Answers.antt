use Rattle.std.specs.Prelude.{◌≡◌}
use Rattle.std.proofs.Common.{rules, List, sym, subst}
use Rattle.acta_sets.specs.declared.held_op.HeldOp.{HeldOp}
use Rattle.acta_sets.specs.Operations.{transferred_of}
use Rattle.acta_values.specs.KeptValues.{AreAfter, IsInOrder}
use Rattle.acta_values.proofs.Equivalence.{transferred_of_after}
use Rattle.acta_values.proofs.store.Store.transfer.Goals as goal

-- on an error nothing was transferred
pub invariant_of-self : goal.invariant_of-self
invariant_of-self g c =
    let before = c.self.inside in
    let same : c.transfer.new.self ≡ before.operations = search rules in
    subst (λ (items : List HeldOp). IsInOrder before.kinds.items items before.values before.chains) (sym same) c.self.invariant

pub invariant_of-self-2 : goal.invariant_of-self-2
invariant_of-self-2 g c =
    let before = c.self.inside in
    let changed : c.transfer.new.self ≡ transferred_of c.args.from.0 c.args.ops.now c.args.u before.operations = search rules in
    record {
      after = subst (λ (items : List HeldOp). AreAfter before.kinds.items items before.values) (sym changed) (transferred_of_after before.kinds.items before.operations before.values c.args.from.0 c.args.ops.now c.args.u c.self.invariant.after);
      chained = c.forget.ensures.chained c.transfer.new.self;
    }
