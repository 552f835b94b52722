use Rattle.std.proofs.Common.{sym}
use Rattle.acta_machine.specs.inside.Abstraction.{abstraction}
use Rattle.acta_machine.proofs.NamedOperations.{left_out-there}
use Rattle.acta_machine.proofs.machine_state.MachineState.partial_delegation.Goals as goal

pub returns-in_err-op-clause-refusal : goal.returns-in_err-op-clause-refusal
returns-in_err-op-clause-refusal g c =
    absurd (left_out-there (abstraction c.args.self.now) c.match-event.ops.now c.match-event.t.now.0 c.in_ok-number.number (sym c.in_ok-number.ensures) (sym c.in_err-op.ensures.held))
