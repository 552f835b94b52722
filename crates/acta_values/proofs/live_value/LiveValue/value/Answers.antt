use Rattle.std.proofs.Common.{◌≡◌, ◌∙◌, List}
use Rattle.std.proofs.lemmas.Result.{IfOk-weaker}
use Rattle.acta_table.specs.declared.model.Kind.{Kind}
use Rattle.acta_table.specs.declared.event.Op.{Op}
use Rattle.acta_objects.specs.declared.state.ObjectState.{ObjectState}
use Rattle.acta_objects.specs.Objects.{first_state, state_after}
use Rattle.acta_values.specs.declared.trail.Numbered.{Numbered}
use Rattle.acta_values.specs.LiveValues.{ops_of, IsAfter, state_of}
use Rattle.acta_values.proofs.LiveValues.{state_is}
use Rattle.acta_values.proofs.live_value.LiveValue.value.Goals as goal

pub returns : goal.returns
returns g c =
    IfOk-weaker c.state.result (λ (state : ObjectState g.row.A.Denot). state ≡ state_of c.args.self.now)
    (λ (value : ObjectState g.row.A.Denot). (kind : Kind) (ops : List (Numbered Op)) → IsAfter kind ops c.args.self.now → value ≡ state_after (first_state kind) (ops_of ops))
    (λ value is kind ops after. is ∙ state_is kind ops c.args.self.now c.state.ensures.ordered after)
    c.state.ensures.state
