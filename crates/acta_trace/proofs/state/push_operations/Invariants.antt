use Rattle.std.proofs.Common.{◌≡◌, take}
use Rattle.acta_trace.specs.States.{operations_line}
use Rattle.acta_trace.proofs.state.push_operations.Given as goal

abbrev pub invariant-loop-op : goal.invariant-loop-op
invariant-loop-op g l = l.line.items ≡ operations_line (take l.op-index l.ops)
