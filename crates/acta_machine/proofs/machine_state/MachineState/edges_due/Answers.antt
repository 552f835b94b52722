use Rattle.std.proofs.Common.{ap, ◌∙◌}
use Rattle.std.proofs.lemmas.Result.{IfOk-weaker}
use Rattle.acta_axioms.specs.inside.Wanted.{edges_wanted}
use Rattle.acta_machine.specs.inside.Abstraction.{abstraction}
use Rattle.acta_machine.proofs.ConflictingHolders.{wanted-due}
use Rattle.acta_machine.proofs.machine_state.MachineState.edges_due.Goals as goal

pub returns-in_default-clause-due : goal.returns-in_default-clause-due
returns-in_default-clause-due g c = IfOk-weaker c.edges_wanted.result _ _ (λ _ seen. seen ∙ ap (λ ks. edges_wanted ks c.args.event.now) c.classes-classes.ensures.classes ∙ wanted-due c.args.self.now.model (abstraction c.args.self.now) c.args.event.now c.in_default.not-Operate) c.edges_wanted.ensures
