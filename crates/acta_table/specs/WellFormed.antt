-- The rules on the form of an event, which depend on the model alone.
use Rattle.std.specs.Prelude.{ℕ, Bool, false, ◌||◌, ◌==◌, nat_lt, nat_le, List, [], ◌∷◌, filter, length, if◌then◌else◌, Option, Some, None}
use Rattle.std.specs.Option.{option_map_or}
use Rattle.acta_table.specs.declared.event.Event.{Event}
use Rattle.acta_table.specs.declared.answer.Rule.TheVariants.{BadNumber, BadClass, BadObject, SameTransaction}
use Rattle.acta_table.specs.declared.answer.Refusal.{Refusal}
use Rattle.acta_table.specs.declared.model.Parts.{Parts}
use Rattle.acta_table.specs.declared.limits.TheConstants.{LAST_TXN}
use Rattle.acta_table.specs.Events.{named, class_named, object_named}
use Rattle.acta_table.specs.Numbered.{smallest}
use Rattle.acta_table.specs.Refusals.{broken_if, broken_by}

-- the number is not that of a transaction: 1 to the last
abbrev pub is_bad_number : ℕ → Bool
is_bad_number t = (t == 0) || nat_lt LAST_TXN t

-- the event names a bad transaction number
unfoldable pub bad_number : {A : Type 0} → Event A → Option Refusal
bad_number e = broken_by BadNumber (smallest (filter is_bad_number (named e)))

-- the class named is not in the model
unfoldable pub bad_class : {A : Type 0} → Parts A → Event A → Option Refusal
bad_class m e = broken_if (option_map_or (nat_le (length m.classes)) (class_named e) false) BadClass

-- the object named is not in the model
unfoldable pub bad_object : {A : Type 0} → Parts A → Event A → Option Refusal
bad_object m e = broken_if (option_map_or (nat_le (length m.objects)) (object_named e) false) BadObject

-- the transaction that is named twice
abbrev pub twice_in : List ℕ → Option ℕ
twice_in (t ∷ u ∷ []) = if t == u then Some t else None
twice_in _ = None

-- the two transactions of the event are the same
unfoldable pub same_transaction : {A : Type 0} → Event A → Option Refusal
same_transaction e = broken_by SameTransaction (twice_in (named e))
