use Rattle.std.proofs.Common.{◌∙◌}
use Rattle.std.proofs.lemmas.Result.{IfOk-weaker}
use Rattle.acta_sets.specs.Operations.{conflict_set}
use Rattle.acta_machine.specs.inside.Abstraction.{abstraction}
use Rattle.acta_machine.proofs.machine_state.MachineState.conflict_set.Goals as goal

pub returns : goal.returns
returns g c =
    IfOk-weaker c.conflict_set.result _ _
    (λ _ seen. seen ∙ (λ i. conflict_set c.args.t.0 ((c.deref.ensures.value ∙ c.in_ok-exempt.ensures) i) (abstraction c.args.self.now).permits (c.operations.ensures i)))
    c.conflict_set.ensures
