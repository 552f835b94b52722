use Rattle.std.proofs.Common.{ap, ◌∙◌}
use Rattle.std.proofs.lemmas.Result.{IfOk-weaker}
use Rattle.acta_sets.specs.Permits.{permitted}
use Rattle.acta_sets.proofs.Permitting.{permitted-is}
use Rattle.acta_sets.proofs.permits.Permits.listed.Goals as goal

pub returns-clause-listed : goal.returns-clause-listed
returns-clause-listed g c =
    IfOk-weaker c.permits.result _ _
    (λ list listed h t object. listed h t object ∙ permitted-is c.self.inside.taken.items h t object ∙ ap (λ p. permitted p h t object) c.self.view_is)
    c.permits.ensures.listed
