use Rattle.std.proofs.lemmas.Result.{on_ok_weaker}
use Rattle.acta_axioms.proofs.Following.{permit-on}
use Rattle.acta_axioms.proofs.taking.follow_all.Goals as goal

pub returns-then-before-clause-brought : goal.returns-then-before-clause-brought
returns-then-before-clause-brought g c =
    λ i. record c.args.store.now { items = permit-on c.args.before.heir c.args.event.now c.in-Permit.t c.in-Permit.u c.in-Permit.ob c.args.store.now.items c.in-Permit.is i }

pub returns-else-before-clause-brought : goal.returns-else-before-clause-brought
returns-else-before-clause-brought g c =
    on_ok_weaker c.give.result
    (λ _ i. record c.args.store.now { items = permit-on c.args.before.heir c.args.event.now c.in-Permit.t c.in-Permit.u c.in-Permit.ob c.args.store.now.items c.in-Permit.is i })
    c.give.ensures.ok
