use Rattle.std.proofs.Common.{ap, ◌∙◌}
use Rattle.std.proofs.lemmas.Result.{IfOk-weaker}
use Rattle.acta_axioms.specs.Permits.{is_permitted}
use Rattle.acta_machine.specs.Summary.{Summary}
use Rattle.acta_machine.specs.Table.{State, permitted_in}
use Rattle.acta_machine.proofs.machine.Machine.permits.Goals as goal

pub returns-clause-permits : goal.returns-clause-permits
returns-clause-permits g c =
    IfOk-weaker c.listed.result _ _
    (λ list listed h t object.
    listed h t object ∙ ap (λ (s : Summary). s.permits h t object) c.self.invariant.agrees
    ∙ ap (λ (x : State g.row.A.Denot). permitted_in x h t object) c.self.view_is)
    c.listed.ensures.listed

pub returns-clause-places : goal.returns-clause-places
returns-clause-places g c =
    IfOk-weaker c.listed.result _ _
    (λ list listed h t object.
    listed h t object ∙ ap (λ (s : Summary). s.permits h t object) c.self.invariant.agrees
    ∙ c.self.invariant.follows.shows.permits h t object
    ∙ ap (λ (x : State g.row.A.Denot). is_permitted x.kept h t object) c.self.view_is)
    c.listed.ensures.listed
