use Rattle.std.proofs.Common.{ap, ◌∙◌}
use Rattle.std.proofs.lemmas.Result.{IfOk-weaker}
use Rattle.acta_sets.specs.Permits.{permitted}
use Rattle.acta_sets.specs.inside.Granted.{is_granted}
use Rattle.acta_sets.proofs.Permitting.{permitted-is, small-and}
use Rattle.acta_sets.proofs.permits.Permits.permitters.Goals as goal

pub returns-clause-named : goal.returns-clause-named
returns-clause-named g c =
    let taken = c.self.inside.taken.items in
    IfOk-weaker c.partners.result _ _
    (λ hs found h.
    found h ∙ small-and (is_granted taken c.args.t.0 c.args.ob.0 h.0) h.0 (c.self.invariant.mirrored.small h.0 c.args.t.0 c.args.ob.0)
    ∙ permitted-is taken h.0 c.args.t.0 c.args.ob.0 ∙ ap (λ p. permitted p h.0 c.args.t.0 c.args.ob.0) c.self.view_is)
    c.partners.ensures.named
