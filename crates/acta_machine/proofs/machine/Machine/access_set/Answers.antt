use Rattle.std.proofs.Common.{◌≡◌, ◌∙◌, ap, subst, List, IfOk}
use Rattle.acta_table.specs.declared.event.OpNo.{OpNo}
use Rattle.acta_axioms.specs.Operations as by_places
use Rattle.acta_sets.specs.Operations.{access_set}
use Rattle.acta_machine.specs.Summary.{Summary}
use Rattle.acta_machine.specs.Table.{State}
use Rattle.acta_machine.specs.Places.{op_numbers}
use Rattle.acta_machine.proofs.SetTies.{access-places}
use Rattle.acta_machine.proofs.machine.Machine.access_set.Goals as goal

pub returns-clause-places : goal.returns-clause-places
returns-clause-places g c =
    let machine_state = c.self.inside.machine_state in
    let state : State g.row.A.Denot = record { model = machine_state.model; kept = machine_state.kept.items } in
    let same = ap (λ (s : Summary). access_set c.args.t.0 s.operations) c.self.invariant.agrees ∙ access-places state c.args.t.0 c.self.invariant.follows
    ∙ ap (λ (x : State g.row.A.Denot). op_numbers (by_places.access_set x.model x.kept c.args.t.0)) c.self.view_is in
    subst (λ (numbers : List OpNo). IfOk c.access_set.result (λ v. v.items ≡ numbers)) same c.access_set.ensures.set
