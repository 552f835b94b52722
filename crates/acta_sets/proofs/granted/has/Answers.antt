use Rattle.std.specs.Prelude.{◌≡◌, ◌<◌, length, get_or}
use Rattle.std.proofs.Common.{rules, ap, sym, ◌∙◌}
use Rattle.acta_sets.specs.Permits.{has_grant}
use Rattle.acta_sets.proofs.Grants.{any-at, grants_at-own}
use Rattle.acta_sets.proofs.granted.has.Goals as goal

pub returns-in-Some : goal.returns-in-Some
returns-in-Some g c =
    let grant = c.args.grant.now in
    let table = c.args.table.now.items in
    let grants = c.in-Some.grants.now in
    let within : c.args.at < length table = search rules in
    let is : grants ≡ get_or table c.args.at grants = search rules in
    c.contains.ensures ∙ any-at grant grants.keys
    ∙ ap (λ gs. has_grant gs grant.object.0 grant.partner.0) (sym (grants_at-own table c.args.at grants within is))
