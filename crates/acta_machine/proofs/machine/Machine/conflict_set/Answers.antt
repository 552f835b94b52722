use Rattle.std.proofs.Common.{◌≡◌, ◌∙◌, ap, subst, List, IfOk}
use Rattle.acta_table.specs.declared.event.OpNo.{OpNo}
use Rattle.acta_axioms.specs.Operations as by_places
use Rattle.acta_machine.specs.Summary.{Summary}
use Rattle.acta_machine.specs.Families.{conflict_set_of}
use Rattle.acta_machine.specs.Table.{State, conflict_set_in}
use Rattle.acta_machine.specs.Places.{op_numbers}
use Rattle.acta_machine.proofs.SetTies.{conflict-places}
use Rattle.acta_machine.proofs.machine.Machine.conflict_set.Goals as goal

pub returns-clause-set : goal.returns-clause-set
returns-clause-set g c =
    let machine_state = c.self.inside.machine_state in
    let same = ap (λ (s : Summary). conflict_set_of machine_state.model s c.args.t.0) c.self.invariant.agrees
    ∙ ap (λ (x : State g.row.A.Denot). conflict_set_in x c.args.t.0) c.self.view_is in
    subst (λ (numbers : List OpNo). IfOk c.conflict_set.result (λ v. v.items ≡ numbers)) same c.conflict_set.ensures

pub returns-clause-places : goal.returns-clause-places
returns-clause-places g c =
    let machine_state = c.self.inside.machine_state in
    let state : State g.row.A.Denot = record { model = machine_state.model; kept = machine_state.kept.items } in
    let same = ap (λ (s : Summary). conflict_set_of machine_state.model s c.args.t.0) c.self.invariant.agrees ∙ conflict-places state c.args.t.0 c.self.invariant.follows
    ∙ ap (λ (x : State g.row.A.Denot). op_numbers (by_places.conflict_set x.model x.kept c.args.t.0)) c.self.view_is in
    subst (λ (numbers : List OpNo). IfOk c.conflict_set.result (λ v. v.items ≡ numbers)) same c.conflict_set.ensures
