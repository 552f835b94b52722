use Rattle.std.proofs.Common.{sym, subst}
use Rattle.std.proofs.lemmas.List.Elements.{All-push}
use Rattle.acta_explore.specs.Deadlocks.{WaitsForSeat}
use Rattle.acta_explore.specs.inside.Circles.{AreLinks}
use Rattle.acta_explore.proofs.circle.push_links.Goals as goal

pub loop-next-preserved : goal.loop-next-preserved
loop-next-preserved g c =
    subst (AreLinks c.args.plan.now c.args.point.now) (sym c.in_ok-push.ensures.items)
    (All-push (λ link. WaitsForSeat c.args.plan.now c.args.point.now link.seat link.next) c.loop-next.links.items c.in-Some.link c.loop-next.invariant c.in-Some.ensures)
