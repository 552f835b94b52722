use Rattle.std.proofs.Common.{subst, sym}
use Rattle.std.specs.List.{All}
use Rattle.std.proofs.lemmas.List.Elements.{All-push}
use Rattle.acta_hope.specs.Deadlocks.{IsCycle}
use Rattle.acta_hope.proofs.deadlock.deadlocks.Goals as goal

pub loop-start-preserved : goal.loop-start-preserved
loop-start-preserved g c =
    let circle = subst (IsCycle c.args.waits.now) c.deref.ensures.value (c.is_cycle.ensures c.if-not-is_cycle.false) in
    subst (All (IsCycle c.args.waits.now)) (sym c.in_ok-push.ensures.items)
    (All-push (IsCycle c.args.waits.now) c.loop-start.circles.items c.of.result c.loop-start.invariant (subst (IsCycle c.args.waits.now) (sym c.of.ensures) circle))
