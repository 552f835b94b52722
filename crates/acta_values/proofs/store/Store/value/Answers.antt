use Rattle.std.proofs.Common.{◌≡◌, List, Option, subst}
use Rattle.std.specs.Prelude.{IfOk, option_map, slice_get}
use Rattle.std.proofs.lemmas.Result.{IfOk-weaker}
use Rattle.acta_table.specs.declared.model.Kind.{Kind}
use Rattle.acta_objects.specs.declared.state.ObjectState.{ObjectState}
use Rattle.acta_objects.specs.Objects.{first_state, state_after}
use Rattle.acta_sets.specs.declared.held_op.HeldOp.{HeldOp}
use Rattle.acta_values.specs.KeptValues.{AreAfter}
use Rattle.acta_values.specs.Live.{live_ops}
use Rattle.acta_values.specs.Stores.{Stored}
use Rattle.acta_values.proofs.store.Store.value.Goals as goal

pub returns : goal.returns
returns g c =
    let is_value : List Kind → List HeldOp → Option (ObjectState g.row.A.Denot) → Type 0 = λ kinds items value. value ≡ option_map (λ kind. state_after (first_state kind) (live_ops kind items c.args.ob.0)) (slice_get kinds c.args.ob.0) in
    let before = c.self.inside in
    subst (λ (s : Stored). IfOk c.value.result (is_value s.kinds s.items)) c.self.view_is
    (IfOk-weaker c.value.result (λ value. (kinds : List Kind) (items : List HeldOp) → AreAfter kinds items before.values → is_value kinds items value) (is_value before.kinds.items before.operations)
    (λ value says. says before.kinds.items before.operations c.self.invariant.after)
    c.value.ensures)
