use Rattle.acta_explore.specs.inside.Circles.{AreWaits}
use Rattle.acta_explore.proofs.circle.waits.Given as goal

-- those of the seats so far
abbrev pub invariant-loop-seat : goal.invariant-loop-seat
invariant-loop-seat g l = AreWaits l.plan l.point l.waits.items
