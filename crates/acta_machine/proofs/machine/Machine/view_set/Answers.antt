use Rattle.std.proofs.Common.{◌≡◌, ◌∙◌, ap, subst, List, IfOk}
use Rattle.acta_table.specs.declared.event.OpNo.{OpNo}
use Rattle.acta_axioms.specs.Operations as by_places
use Rattle.acta_sets.specs.Operations.{view_set}
use Rattle.acta_machine.specs.Summary.{Summary}
use Rattle.acta_machine.specs.Table.{State}
use Rattle.acta_machine.specs.Places.{op_numbers}
use Rattle.acta_machine.proofs.SetTies.{view-places}
use Rattle.acta_machine.proofs.machine.Machine.view_set.Goals as goal

pub returns-clause-places : goal.returns-clause-places
returns-clause-places g c =
    let machine_state = c.self.inside.machine_state in
    let state : State g.row.A.Denot = record { model = machine_state.model; kept = machine_state.kept.items } in
    let same = ap view_set c.operations.ensures ∙ ap (λ (s : Summary). view_set s.operations) c.self.invariant.agrees ∙ view-places state c.self.invariant.follows
    ∙ ap (λ (x : State g.row.A.Denot). op_numbers (by_places.view_set x.model x.kept)) c.self.view_is in
    subst (λ (numbers : List OpNo). IfOk c.view_set.result (λ v. v.items ≡ numbers)) same c.view_set.ensures
