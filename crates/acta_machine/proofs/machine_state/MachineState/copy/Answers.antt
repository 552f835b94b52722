use Rattle.std.proofs.Common.{◌∙◌}
use Rattle.acta_machine.proofs.machine_state.MachineState.copy.Goals as goal

pub returns-clause-records : goal.returns-clause-records
returns-clause-records g c = c.in_ok-records.ensures.items ∙ c.deref.ensures.value

pub returns-clause-store : goal.returns-clause-store
returns-clause-store g c = c.in_ok-store.ensures

pub returns-clause-deps : goal.returns-clause-deps
returns-clause-deps g c = c.in_ok-deps.ensures
