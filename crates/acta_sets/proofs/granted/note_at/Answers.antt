use Rattle.std.specs.Prelude.{◌||◌}
use Rattle.std.proofs.Common.{ap}
use Rattle.std.proofs.lemmas.Result.{on_ok_weaker, on_err_weaker}
use Rattle.acta_sets.specs.Permits.{is_grant, has_grant}
use Rattle.acta_sets.proofs.Grants.{is_granted-set, or-false}
use Rattle.acta_sets.proofs.granted.note_at.Goals as goal

pub returns-in-Some-clause-ok : goal.returns-in-Some-clause-ok
returns-in-Some-clause-ok g c =
    on_ok_weaker c.note.result
    (λ own v object partner.
    is_granted-set c.args.table.now.items c.args.at c.in-Some.grants.now c.note.new.grants (λ d b. b || d) c.requires c.in-Some.ensures.value v object partner
    (is_grant object partner c.args.grant) or-false (own object partner))
    c.note.ensures.ok

pub returns-in-Some-clause-err : goal.returns-in-Some-clause-err
returns-in-Some-clause-err g c =
    on_err_weaker c.note.result
    (λ same v object partner.
    is_granted-set c.args.table.now.items c.args.at c.in-Some.grants.now c.note.new.grants (λ d b. b) c.requires c.in-Some.ensures.value v object partner
    (is_grant object partner c.args.grant) (λ b i. b) (ap (λ gs. has_grant gs object partner) same))
    c.note.ensures.err
