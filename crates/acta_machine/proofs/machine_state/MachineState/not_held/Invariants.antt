use Rattle.std.proofs.Common.{◌≡◌, drop, filter}
use Rattle.acta_table.specs.Sets.{numbers_of}
use Rattle.acta_table.proofs.Smallest.{least_from}
use Rattle.acta_machine.specs.Rules.{is_of_another, not_held}
use Rattle.acta_machine.specs.inside.Abstraction.{abstraction}
use Rattle.acta_machine.proofs.machine_state.MachineState.not_held.Given as goal

-- the least so far, combined with the rest, gives the least of all
abbrev pub invariant-loop-op : goal.invariant-loop-op
invariant-loop-op g l =
    least_from l.least (filter (is_of_another (abstraction l.self) l.t.0) (numbers_of (drop l.op-index l.ops))) ≡ not_held (abstraction l.self) l.ops l.t.0
