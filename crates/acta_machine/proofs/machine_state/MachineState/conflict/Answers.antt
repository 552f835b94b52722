use Rattle.std.proofs.Common.{sym, ◌∙◌}
use Rattle.acta_table.proofs.FirstNumbers.{first-there}
use Rattle.acta_machine.specs.Conflicts.{stands_against}
use Rattle.acta_machine.specs.inside.Abstraction.{abstraction}
use Rattle.acta_machine.proofs.machine_state.MachineState.conflict.Goals as goal

pub returns-in-None-clause-refusal : goal.returns-in-None-clause-refusal
returns-in-None-clause-refusal g c =
    let now = c.args.self.now in
    absurd (first-there (stands_against now.model (abstraction now) c.in-Operate.t.0 c.in-Operate.ob c.in-Operate.op) now.store.items c.in-Some.number (sym c.in_ok-number.ensures ∙ c.in-Some.is) (sym c.in-None.ensures.held))
