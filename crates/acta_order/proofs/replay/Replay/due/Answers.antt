use Rattle.std.proofs.Common.{◌≡◌, ◌∙◌, Some, None, Option, ap, refl, map}
use Rattle.std.specs.Prelude.{option_map, slice_get}
use Rattle.acta_table.specs.declared.model.Kind.{Kind}
use Rattle.acta_objects.specs.Objects.{first_state, state_after, returned}
use Rattle.acta_values.specs.Live.{live_ops}
use Rattle.acta_order.specs.Search.{Replaying, held, values_of}
use Rattle.acta_order.proofs.replay.Replay.due.Goals as goal

twice : {X Y Z : Type 0} (f : X → Y) (h : Y → Z) (o : Option X) → option_map (λ x. h (f x)) o ≡ option_map h (option_map f o)
twice f h None = refl
twice f h (Some x) = refl

pub returns : goal.returns
returns g c =
    let b = c.self.inside in
    let items = map held b.done.items in
    c.due.ensures b.kinds.items items c.self.invariant
    ∙ twice (λ (kind : Kind). state_after (first_state {A = g.row.A.Denot} kind) (live_ops kind items c.args.ob.0)) (λ s. returned s c.args.op.now) (slice_get b.kinds.items c.args.ob.0)
    ∙ ap (λ (x : Replaying). option_map (λ s. returned s c.args.op.now) (values_of {A = g.row.A.Denot} x c.args.ob.0)) c.self.view_is
