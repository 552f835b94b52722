use Rattle.std.specs.Prelude.{◌≡◌, ◌+◌, ◌<◌, length}
use Rattle.std.proofs.Common.{rules, List, sym, subst}
use Rattle.acta_sets.specs.declared.held_op.HeldOp.{HeldOp}
use Rattle.acta_sets.specs.Chains.{AreChained}
use Rattle.acta_sets.specs.Operations.{added}
use Rattle.acta_table.specs.declared.limits.TheConstants.{MOST_EVENTS}
use Rattle.acta_values.specs.KeptValues.{IsInOrder}
use Rattle.acta_sets.proofs.Chaining.{AreChained-added}
use Rattle.acta_values.proofs.store.Store.add.Goals as goal

pub note-requires : goal.note-requires
note-requires g c =
    let before = c.self.inside in
    let more : c.add-2.new.self ≡ added before.operations c.args.t c.args.ob c.args.op = search rules in
    subst (λ (items : List HeldOp). AreChained items before.chains) (sym more) (AreChained-added before.operations before.chains _ c.self.invariant.chained)

-- on an error the operation is undone in the value
pub invariant_of-self-in-Err : goal.invariant_of-self-in-Err
invariant_of-self-in-Err g c =
    let before = c.self.inside in
    let kinds = before.kinds.items in
    let next : length c.operations.result.now + 1 ≡ length before.operations + 1 = search rules in
    let room : length before.operations < MOST_EVENTS = search rules in
    let added = c.in_ok-add.ensures.ok kinds before.operations c.self.invariant.after next room c.args.t in
    subst (λ (items : List HeldOp). IsInOrder kinds items c.forget.new.self before.chains) (sym c.in-Err.ensures.err) (record {
      after = c.forget.ensures kinds before.operations c.args.t added next;
      chained = c.self.invariant.chained;
    })
