-- Whether an event breaks one of the rules on its form.
use Rattle.std.proofs.Common.{◌≡◌, true, List, [], ◌∷◌, fold, Option, Some, None, refl}
use Rattle.std.specs.Prelude.{is_some}
use Rattle.std.specs.List.{list_any}
use Rattle.std.specs.Option.{option_or}
use Rattle.acta_table.specs.declared.answer.Refusal.{Refusal}
use Rattle.acta_table.specs.declared.event.Event.{Event}
use Rattle.acta_table.specs.declared.model.Parts.{Parts}
use Rattle.acta_table.specs.WellFormed.{bad_number, bad_class, bad_object, same_transaction}
use Rattle.acta_objects.specs.WellFormed.{bad_operation, form_refusal}

settled : (r : Refusal) (rs : List (Option Refusal)) → is_some (fold option_or (Some r) rs) ≡ true
settled r [] = refl
settled r (q ∷ rs) = settled r rs

first-some : (rs : List (Option Refusal)) → is_some (fold option_or None rs) ≡ list_any is_some rs
first-some [] = refl
first-some (None ∷ rs) = first-some rs
first-some (Some r ∷ rs) = settled r rs

-- if some rule is broken, there is a lowest broken rule
pub refused_some : {A : Type 0} (m : Parts A) (e : Event A) → is_some (form_refusal m e) ≡ list_any is_some (bad_number e ∷ bad_class m e ∷ bad_object m e ∷ bad_operation m e ∷ same_transaction e ∷ [])
refused_some m e = first-some (bad_number e ∷ bad_class m e ∷ bad_object m e ∷ bad_operation m e ∷ same_transaction e ∷ [])
