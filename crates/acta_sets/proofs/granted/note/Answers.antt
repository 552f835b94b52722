use Rattle.std.specs.Prelude.{true}
use Rattle.std.proofs.Common.{◌∙◌}
use Rattle.acta_sets.specs.Permits.{is_grant, has_grant}
use Rattle.acta_sets.proofs.Grants.{has_grant-updated, cond-true}
use Rattle.acta_sets.proofs.granted.note.Goals as goal

pub returns-in-Ok-clause-ok : goal.returns-in-Ok-clause-ok
returns-in-Ok-clause-ok g c = λ object partner.
    has_grant-updated c.args.grants.now c.insert.new.self c.args.grant true c.in-Ok.ensures.updates.0 object partner
    ∙ cond-true (is_grant object partner c.args.grant) (has_grant c.args.grants.now.keys object partner)
