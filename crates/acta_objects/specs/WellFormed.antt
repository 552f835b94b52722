-- The rules on the form of an event: the rule on operations, and all of them together.
use Rattle.std.specs.Prelude.{Bool, false, not, [], ◌∷◌, Option}
use Rattle.std.specs.Option.{option_map_or}
use Rattle.acta_table.specs.declared.event.Event.{Event}
use Rattle.acta_table.specs.declared.event.Event.TheVariants.{Operate}
use Rattle.acta_table.specs.declared.answer.Rule.TheVariants.{BadOperation}
use Rattle.acta_table.specs.declared.answer.Refusal.{Refusal}
use Rattle.acta_table.specs.declared.model.Parts.{Parts}
use Rattle.acta_table.specs.Classes.{kind_at}
use Rattle.acta_table.specs.Refusals.{broken_if, first_of}
use Rattle.acta_table.specs.WellFormed.{bad_number, bad_class, bad_object, same_transaction}
use Rattle.acta_objects.specs.Objects.{suits}

-- whether the event is an operation that its object's kind does not have
abbrev pub is_unsuited : {A : Type 0} → Parts A → Event A → Bool
is_unsuited m (Operate t ob op) = option_map_or (λ kind. not (suits kind op)) (kind_at m ob.0) false
is_unsuited m _ = false

-- the object's kind does not have the operation
unfoldable pub bad_operation : {A : Type 0} → Parts A → Event A → Option Refusal
bad_operation m e = broken_if (is_unsuited m e) BadOperation

-- the lowest rule on the form of an event that it breaks
abbrev pub form_refusal : {A : Type 0} → Parts A → Event A → Option Refusal
form_refusal m e =
    first_of (bad_number e ∷ bad_class m e ∷ bad_object m e ∷ bad_operation m e ∷ same_transaction e ∷ [])
