use Rattle.acta_table.specs.declared.answer.Rule.TheVariants.{NotInProgress}
use Rattle.acta_table.specs.WellFormed.{bad_number}
use Rattle.acta_machine.specs.Rules.{not_in_progress}
use Rattle.acta_machine.specs.inside.Abstraction.{abstraction}
use Rattle.acta_machine.proofs.Broken.{good_number, in_progress}
use Rattle.acta_machine.proofs.machine_state.MachineState.abort.Goals as goal

pub aborted-requires-clause-low : goal.aborted-requires-clause-low
unfolding bad_number
aborted-requires-clause-low g c = (good_number c.args.t.0 c.requires.number).0

pub aborted-requires-clause-high : goal.aborted-requires-clause-high
unfolding bad_number
aborted-requires-clause-high g c = (good_number c.args.t.0 c.requires.number).1

pub aborted-requires-clause-stands : goal.aborted-requires-clause-stands
unfolding not_in_progress
aborted-requires-clause-stands g c = in_progress (abstraction c.args.self.now) NotInProgress c.args.t.0 c.requires.stands
