use Rattle.std.proofs.Common.{◌≡◌, ◌++◌}
use Rattle.acta_values.specs.LiveSets.{elements_of}
use Rattle.acta_values.proofs.live_set.LiveSet.members.Given as goal

-- the elements so far and those of the rest are all
abbrev pub invariant-loop-x : goal.invariant-loop-x
invariant-loop-x g l = l.members ++ elements_of l.x-iterator ≡ elements_of l.self
