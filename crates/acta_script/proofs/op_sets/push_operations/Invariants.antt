use Rattle.std.proofs.Common.{◌≡◌, ◌++◌, take}
use Rattle.acta_script.proofs.Joined.{behind_commas}
use Rattle.acta_script.proofs.op_sets.push_operations.Given as goal

-- the operations so far are written after the first
abbrev pub invariant-loop-op : goal.invariant-loop-op
invariant-loop-op g l = l.line.items ≡ l.initial.line.items ++ behind_commas (take l.op-index l.others)
