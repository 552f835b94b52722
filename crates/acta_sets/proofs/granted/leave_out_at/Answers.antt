use Rattle.std.specs.Prelude.{◌<◌, ◌&&◌, not, length}
use Rattle.std.proofs.Common.{rules}
use Rattle.acta_sets.specs.Permits.{is_grant}
use Rattle.acta_sets.proofs.Grants.{is_granted-set, and-true}
use Rattle.acta_sets.proofs.granted.leave_out_at.Goals as goal

pub returns-in-Some-clause-left : goal.returns-in-Some-clause-left
returns-in-Some-clause-left g c = λ v object partner.
    let within : c.args.at < length c.args.table.now.items = search rules in
    is_granted-set c.args.table.now.items c.args.at c.in-Some.grants.now c.leave_out.new.grants (λ d b. b && not d) within c.in-Some.ensures.value v object partner
    (is_grant object partner c.args.grant.now) and-true (c.leave_out.ensures object partner)
