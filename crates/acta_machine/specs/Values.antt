-- Values of objects, and returns.
use Rattle.std.specs.Prelude.{ℕ, Option, None, option_map}
use Rattle.acta_table.specs.declared.event.Ret.{Ret}
use Rattle.acta_table.specs.declared.event.Event.{Event}
use Rattle.acta_table.specs.declared.event.Event.TheVariants.{Operate}
use Rattle.acta_table.specs.declared.model.Parts.{Parts}
use Rattle.acta_table.specs.Classes.{kind_at}
use Rattle.acta_objects.specs.declared.state.ObjectState.{ObjectState}
use Rattle.acta_objects.specs.Objects.{first_state, state_after, returned}
pub use Rattle.acta_values.specs.Live.{live_on, live_ops}
use Rattle.acta_machine.specs.Summary.{Summary}

-- the value of an object: its initial value after the operations on it that are not aborted
abbrev pub value_of : {A : Type 0} → Parts A → Summary → ℕ → Option (ObjectState A)
value_of m s object =
    option_map (λ kind. state_after (first_state kind) (live_ops kind s.operations object)) (kind_at m object)

-- the return that is due for the event
abbrev pub return_due : {A : Type 0} → Parts A → Summary → Event A → Option Ret
return_due m s (Operate t ob op) = option_map (λ value. returned value op) (value_of m s ob.0)
return_due m s _ = None
