use Rattle.std.proofs.Common.{◌≡◌, List, Option, map, subst}
use Rattle.std.specs.Prelude.{IfOk, option_map, slice_get}
use Rattle.std.proofs.lemmas.Result.{IfOk-weaker}
use Rattle.acta_table.specs.declared.model.Kind.{Kind}
use Rattle.acta_objects.specs.declared.state.ObjectState.{ObjectState}
use Rattle.acta_objects.specs.Objects.{first_state, state_after}
use Rattle.acta_sets.specs.declared.held_op.HeldOp.{HeldOp}
use Rattle.acta_values.specs.KeptValues.{AreAfter}
use Rattle.acta_values.specs.Live.{live_ops}
use Rattle.acta_order.specs.Search.{Replaying, held, values_of}
use Rattle.acta_order.proofs.replay.Replay.state.Goals as goal

pub returns : goal.returns
returns g c =
    let is_value : List Kind → List HeldOp → Option (ObjectState g.row.A.Denot) → Type 0 = λ kinds items value. value ≡ option_map (λ kind. state_after (first_state kind) (live_ops kind items c.args.k)) (slice_get kinds c.args.k) in
    let b = c.self.inside in
    subst (λ (x : Replaying). IfOk c.value.result (λ state. state ≡ values_of {A = g.row.A.Denot} x c.args.k)) c.self.view_is
    (IfOk-weaker c.value.result (λ value. (kinds : List Kind) (items : List HeldOp) → AreAfter kinds items b.values → is_value kinds items value) (is_value b.kinds.items (map held b.done.items))
    (λ value says. says b.kinds.items (map held b.done.items) c.self.invariant)
    c.value.ensures)
