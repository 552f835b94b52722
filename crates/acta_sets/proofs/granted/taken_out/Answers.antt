use Rattle.std.specs.Prelude.{◌≡◌, ◌<◌, ◌&&◌, ◌==◌, true, not, length, []}
use Rattle.std.proofs.Common.{rules, ap, sym, ◌∙◌}
use Rattle.acta_sets.specs.Permits.{has_grant}
use Rattle.acta_sets.specs.inside.Granted.{is_granted}
use Rattle.acta_sets.proofs.Grants.{is_granted-set, and-true, and-false}
use Rattle.acta_sets.proofs.granted.taken_out.Goals as goal

pub returns-in-Some-clause-others : goal.returns-in-Some-clause-others
returns-in-Some-clause-others g c = λ v object partner.
    let table = c.args.table.now.items in
    let within : c.args.at < length table = search rules in
    let none : c.replace.new.dest.keys ≡ [] = ap (λ s. s.keys) c.replace.ensures.after ∙ c.new-none.ensures.empty in
    is_granted-set table c.args.at c.in-Some.grants.now c.replace.new.dest (λ d b. b && not d) within c.in-Some.ensures.value v object partner true and-true
    (ap (λ gs. has_grant gs object partner) none ∙ sym (and-false (has_grant c.in-Some.grants.now.keys object partner)))
    ∙ ap (λ b. is_granted table v object partner && not b) (and-true (c.args.at == v))
