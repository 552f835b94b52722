use Rattle.std.proofs.Common.{◌≡◌, List, slice_get, Option, ap, ◌∙◌, subst}
use Rattle.std.specs.Prelude.{IfOk, option_map}
use Rattle.std.proofs.lemmas.Option.{slice_get-map}
use Rattle.acta_table.specs.declared.model.Kind.{Kind}
use Rattle.acta_objects.specs.Objects.{first_state, state_after}
use Rattle.acta_machine.specs.Values.{live_ops}
use Rattle.acta_machine.proofs.machine_state.MachineState.value.Goals as goal

pub returns : goal.returns
returns g c =
    subst (λ (o : Option Kind). IfOk c.value.result (λ value. value ≡ option_map (λ kind. state_after (first_state {A = g.row.A.Denot} kind) (live_ops kind c.args.self.now.store.items c.args.ob.0)) o))
    (ap (λ (ks : List Kind). slice_get ks c.args.ob.0) c.requires ∙ slice_get-map (λ o. o.kind) c.args.self.now.model.objects c.args.ob.0)
    c.value.ensures
