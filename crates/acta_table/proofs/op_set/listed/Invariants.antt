use Rattle.std.proofs.Common.{◌≡◌, map, ℕ}
use Rattle.std.specs.Map.Iter.{deref}
use Rattle.acta_table.specs.Sets.{numbered}
use Rattle.acta_table.proofs.op_set.listed.Given as goal

-- the numbers that the iterator has given
abbrev pub invariant-loop-number : goal.invariant-loop-number
invariant-loop-number g l = l.ops.items ≡ numbered (map (deref {X = ℕ}) l.yielded)
