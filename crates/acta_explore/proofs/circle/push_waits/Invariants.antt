use Rattle.acta_explore.specs.inside.Circles.{AreWaits}
use Rattle.acta_explore.proofs.circle.push_waits.Given as goal

-- the added waits exist
abbrev pub invariant-loop-alternative : goal.invariant-loop-alternative
invariant-loop-alternative g l = AreWaits l.plan l.point l.waits.items
