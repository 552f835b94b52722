use Rattle.acta_explore.specs.inside.Circles.{AreLinks}
use Rattle.acta_explore.proofs.circle.push_links.Given as goal

-- the added links exist
abbrev pub invariant-loop-next : goal.invariant-loop-next
invariant-loop-next g l = AreLinks l.plan l.point l.links.items
