use Rattle.std.proofs.Common.{sym}
use Rattle.acta_machine.specs.inside.Abstraction.{abstraction}
use Rattle.acta_machine.proofs.NamedOperations.{not_held-there}
use Rattle.acta_machine.proofs.machine_state.MachineState.not_responsible.Goals as goal

pub returns-in_err-op-clause-refusal : goal.returns-in_err-op-clause-refusal
returns-in_err-op-clause-refusal g c =
    absurd (not_held-there (abstraction c.args.self.now) c.as_slice.result.now c.match-event.t.now.0 c.in_ok-number.number (sym c.in_ok-number.ensures) (sym c.in_err-op.ensures.held))
