use Rattle.std.proofs.Common.{ap, ◌∙◌}
use Rattle.acta_sets.specs.Permits.{permitted}
use Rattle.acta_sets.proofs.Permitting.{permitted-is}
use Rattle.acta_sets.proofs.permits.Permits.has.Goals as goal

pub returns : goal.returns
returns g c =
    c.has.ensures ∙ permitted-is c.self.inside.taken.items c.args.h.0 c.args.t.0 c.args.ob.0
    ∙ ap (λ p. permitted p c.args.h.0 c.args.t.0 c.args.ob.0) c.self.view_is
