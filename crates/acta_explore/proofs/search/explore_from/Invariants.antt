use Rattle.std.proofs.Common.{◌+◌, ◌-◌, length}
use Rattle.acta_explore.proofs.Expanding.{IsExploredTo}
use Rattle.acta_explore.proofs.search.explore_from.Given as goal

-- the levels so far are searched
abbrev pub invariant-loop-alloc : goal.invariant-loop-alloc
invariant-loop-alloc g l = IsExploredTo l.lines l.root l.most l.points l.level.entries l.ends.entries

-- a level with points adds to them, and the last has none
abbrev pub decreases-loop-alloc : goal.decreases-loop-alloc
decreases-loop-alloc g l = ((l.most + 1) - l.points) + length l.level.entries
