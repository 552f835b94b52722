use Rattle.std.proofs.Common.{◌≡◌, ◌∙◌, ap, subst, Option, IfOk}
use Rattle.acta_objects.specs.declared.state.ObjectState.{ObjectState}
use Rattle.acta_machine.specs.Summary.{Summary}
use Rattle.acta_machine.specs.Values.{value_of}
use Rattle.acta_machine.specs.Table.{State}
use Rattle.acta_machine.specs.Places.{value_at}
use Rattle.acta_machine.proofs.SetTies.{values-places}
use Rattle.acta_machine.proofs.machine.Machine.value.Goals as goal

pub returns-clause-places : goal.returns-clause-places
returns-clause-places g c =
    let machine_state = c.self.inside.machine_state in
    let state : State g.row.A.Denot = record { model = machine_state.model; kept = machine_state.kept.items } in
    let same = ap (λ (s : Summary). value_of machine_state.model s c.args.ob.0) c.self.invariant.agrees ∙ values-places state c.args.ob.0 c.self.invariant.follows
    ∙ ap (λ (x : State g.row.A.Denot). value_at x c.args.ob.0) c.self.view_is in
    subst (λ (value : Option (ObjectState g.row.A.Denot)). IfOk c.value.result (λ v. v ≡ value)) same c.value.ensures
