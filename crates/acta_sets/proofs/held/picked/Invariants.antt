use Rattle.std.proofs.Common.{◌≡◌, ◌++◌, drop}
use Rattle.acta_sets.specs.inside.Held.{named_of}
use Rattle.acta_sets.proofs.held.picked.Given as goal

-- the items so far and those of the rest are all
abbrev pub invariant-loop-op : goal.invariant-loop-op
invariant-loop-op g l = l.named.items ++ named_of l.ops (drop l.op-index l.list) ≡ named_of l.ops l.list
