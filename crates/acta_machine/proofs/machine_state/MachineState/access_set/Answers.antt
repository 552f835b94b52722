use Rattle.std.proofs.Common.{◌∙◌, sym}
use Rattle.acta_machine.specs.inside.Abstraction.{abstraction}
use Rattle.acta_machine.proofs.Idle.{none_held}
use Rattle.acta_machine.proofs.machine_state.MachineState.access_set.Goals as goal

pub returns-then-not-is_in_progress-clause-set : goal.returns-then-not-is_in_progress-clause-set
returns-then-not-is_in_progress-clause-set g c =
    c.new.ensures.items
    ∙ sym (none_held (abstraction c.args.self.now).status c.args.t.0 c.args.self.now.store.items (sym c.is_in_progress.ensures.status ∙ c.if-not-is_in_progress.true) c.requires)
