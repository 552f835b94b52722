use Rattle.std.proofs.Common.{refl, sym, subst, ◌∙◌, true≢false}
use Rattle.acta_locked.specs.Drives.{AreParts}
use Rattle.acta_locked.proofs.Settling.{is-driven}
use Rattle.acta_locked.proofs.run.settled.Goals as goal

pub returns-clause-driven : goal.returns-clause-driven
returns-clause-driven g c =
    let parts : AreParts c.close-book.result 1 c.args.scripts.now c.as_slice.result.now = c.are_settled.ensures.0 c.if-not-are_settled.false in
    is-driven g.J.Job.model c.args.scripts.now c.close-book.result _ c.args.gathered.reports.items c.of-reports.result c.args.gathered.all.amount
    c.close-book.ensures.of_model c.book.invariant.run c.book.view_is c.close-book.ensures.counted c.args.gathered.counted c.of-reports.ensures
    (rw c.as_slice.ensures.value at parts)

pub returns-then-not-are_settled-clause-why : goal.returns-then-not-are_settled-clause-why
returns-then-not-are_settled-clause-why g c =
    (refl, λ parts. true≢false (sym (c.are_settled.ensures.1 (subst (AreParts c.close-book.result 1 c.args.scripts.now) (sym c.as_slice.ensures.value) (subst (λ b. AreParts b 1 c.args.scripts.now c.args.gathered.reports.items) (sym c.close-book.ensures.book) parts))) ∙ c.if-not-are_settled.true))
