use Rattle.acta_explore.specs.inside.Merging.{points_of}
use Rattle.acta_explore.proofs.Expanding.{IsPutTo}
use Rattle.acta_explore.proofs.search.next_level.Given as goal

-- the points after the points so far are added, and those without a step are ends
abbrev pub invariant-loop-index : goal.invariant-loop-index
invariant-loop-index g l = IsPutTo l.plan (points_of l.level.entries) (points_of l.initial.ends.entries) l.room l.index l.next.entries l.ends.entries
