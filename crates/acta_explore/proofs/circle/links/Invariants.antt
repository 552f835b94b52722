use Rattle.acta_explore.specs.inside.Circles.{AreLinks}
use Rattle.acta_explore.proofs.circle.links.Given as goal

-- those of the waits so far
abbrev pub invariant-loop-wait : goal.invariant-loop-wait
invariant-loop-wait g l = AreLinks l.plan l.point l.links.items
