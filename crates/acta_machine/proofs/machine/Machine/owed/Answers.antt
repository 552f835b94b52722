use Rattle.std.proofs.Common.{◌≡◌, ◌∙◌, ap, subst, List, IfOk}
use Rattle.acta_table.specs.declared.dep.Owed.{Owed}
use Rattle.acta_deps.specs.Debts.{owed_in}
use Rattle.acta_axioms.specs.Legal.{owed}
use Rattle.acta_machine.specs.Summary.{Summary}
use Rattle.acta_machine.specs.Table.{State}
use Rattle.acta_machine.proofs.Exactness.{owed-places}
use Rattle.acta_machine.proofs.machine.Machine.owed.Goals as goal

pub returns-clause-places : goal.returns-clause-places
returns-clause-places g c =
    let machine_state = c.self.inside.machine_state in
    let state : State g.row.A.Denot = record { model = machine_state.model; kept = machine_state.kept.items } in
    let same = ap (λ (s : Summary). owed_in s.status s.edges) c.self.invariant.agrees ∙ owed-places machine_state.model machine_state.kept.items c.self.invariant.follows.shows c.self.invariant.follows.orderly
    ∙ ap (λ (x : State g.row.A.Denot). owed x.model x.kept) c.self.view_is in
    subst (λ (debts : List Owed). IfOk c.owed.result (λ o. o.items ≡ debts)) same c.owed.ensures
