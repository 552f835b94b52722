use Rattle.std.specs.Prelude.{false}
use Rattle.std.proofs.Common.{◌∙◌}
use Rattle.acta_sets.specs.Permits.{is_grant, has_grant}
use Rattle.acta_sets.proofs.Grants.{has_grant-updated, cond-false}
use Rattle.acta_sets.proofs.granted.leave_out.Goals as goal

pub returns : goal.returns
returns g c = λ object partner.
    has_grant-updated c.args.grants.now c.remove.new.self c.args.grant.now false c.remove.ensures.updates.0 object partner
    ∙ cond-false (is_grant object partner c.args.grant.now) (has_grant c.args.grants.now.keys object partner)
