use Rattle.std.proofs.Common.{◌∙◌, ap}
use Rattle.acta_objects.specs.declared.state.ObjectState.{ObjectState}
use Rattle.acta_objects.specs.Objects.{returned}
use Rattle.acta_values.proofs.LiveValues.{state_is}
use Rattle.acta_values.proofs.live_value.LiveValue.due.Goals as goal

pub returns : goal.returns
returns g c = λ kind ops after.
    c.returned.ensures.returned
    ∙ ap (λ (state : ObjectState g.row.A.Denot). returned state c.args.op.now) (state_is kind ops c.args.self.now c.returned.ensures.ordered after)
