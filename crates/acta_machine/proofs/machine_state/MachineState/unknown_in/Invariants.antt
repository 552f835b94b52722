use Rattle.std.proofs.Common.{◌≡◌, drop, filter, is_none}
use Rattle.acta_table.specs.Sets.{numbers_of}
use Rattle.acta_table.proofs.Smallest.{least_from}
use Rattle.acta_sets.specs.Operations.{operation_at}
use Rattle.acta_machine.specs.Rules.{unknown_in}
use Rattle.acta_machine.specs.inside.Abstraction.{abstraction}
use Rattle.acta_machine.proofs.machine_state.MachineState.unknown_in.Given as goal

-- the least so far, combined with the rest, gives the least of all
abbrev pub invariant-loop-op : goal.invariant-loop-op
invariant-loop-op g l =
    least_from l.least (filter (λ n. is_none (operation_at l.self.store.items n)) (numbers_of (drop l.op-index l.ops))) ≡ unknown_in (abstraction l.self) l.ops
