use Rattle.std.proofs.Common.{ap, ◌∙◌}
use Rattle.std.proofs.lemmas.Result.{IfOk-weaker}
use Rattle.acta_sets.specs.Permits.{permitted}
use Rattle.acta_sets.proofs.Permitting.{permitted-is}
use Rattle.acta_sets.proofs.permits.Permits.given_to.Goals as goal

pub returns-clause-given : goal.returns-clause-given
returns-clause-given g c =
    IfOk-weaker c.list_of.result _ _
    (λ grants listed h object. listed object h ∙ permitted-is c.self.inside.taken.items h c.args.t.0 object ∙ ap (λ p. permitted p h c.args.t.0 object) c.self.view_is)
    c.list_of.ensures.listed
