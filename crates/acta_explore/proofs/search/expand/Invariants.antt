use Rattle.acta_explore.specs.inside.Merging.{points_of}
use Rattle.acta_explore.proofs.Expanding.{IsExpandedTo}
use Rattle.acta_explore.proofs.search.expand.Given as goal

-- the points after the turns so far are added
abbrev pub invariant-loop-turn : goal.invariant-loop-turn
invariant-loop-turn g l = IsExpandedTo l.plan l.point (points_of l.initial.next.entries) l.turn-items l.turn-index l.next.entries l.has_step
