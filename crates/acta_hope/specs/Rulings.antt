-- The rule that an event breaks, and the earlier rules that it then keeps; used in proofs.
use Rattle.std.specs.Prelude.{◌≡◌, ⊤, List, [], ◌∷◌, Option, None, Some}
use Rattle.acta_table.specs.declared.answer.Refusal.{Refusal}
use Rattle.acta_table.specs.declared.answer.Rule.{Rule}
use Rattle.acta_table.specs.declared.answer.Rule.TheVariants.{Full, BadNumber, BadClass, BadObject, BadOperation, SameTransaction, NotInProgress, AlreadyBegun, NotInModel, PartnerNotInProgress, NotResponsible, PartialDelegation, BadSet, Conflict, FormTooLate, EdgesFull, NoHeir}
use Rattle.acta_table.specs.declared.event.Event.{Event}
use Rattle.acta_table.specs.declared.model.Parts.{Parts}
use Rattle.acta_table.specs.WellFormed.{bad_number, bad_class, bad_object, same_transaction}
use Rattle.acta_objects.specs.WellFormed.{bad_operation}
use Rattle.acta_machine.specs.Summary.{Summary}
use Rattle.acta_machine.specs.Rules.{full, not_in_progress, already_begun, not_in_model, partner_not_in_progress, not_responsible, partial_delegation, bad_set, conflict, form_too_late, edges_full, earlier_broken, dependency, no_heir}

-- the event breaks this rule with this refusal
abbrev pub IsBrokenBy : {A : Type 0} → Parts A → Summary → Event A → Refusal → Rule → Type 0
IsBrokenBy m s e r Full = full s ≡ Some r
IsBrokenBy m s e r BadNumber = bad_number e ≡ Some r
IsBrokenBy m s e r BadClass = bad_class m e ≡ Some r
IsBrokenBy m s e r BadObject = bad_object m e ≡ Some r
IsBrokenBy m s e r BadOperation = bad_operation m e ≡ Some r
IsBrokenBy m s e r SameTransaction = same_transaction e ≡ Some r
IsBrokenBy m s e r NotInProgress = not_in_progress s e ≡ Some r
IsBrokenBy m s e r AlreadyBegun = already_begun s e ≡ Some r
IsBrokenBy m s e r NotInModel = (not_in_model m s e ≡ Some r) × (not_in_progress s e ≡ None)
IsBrokenBy m s e r PartnerNotInProgress = partner_not_in_progress s e ≡ Some r
IsBrokenBy m s e r NotResponsible = not_responsible s e ≡ Some r
IsBrokenBy m s e r PartialDelegation = (partial_delegation m s e ≡ Some r) × (not_in_progress s e ≡ None)
IsBrokenBy m s e r BadSet = bad_set s e ≡ Some r
IsBrokenBy m s e r Conflict = (conflict m s e ≡ Some r) × (not_in_progress s e ≡ None)
IsBrokenBy m s e r FormTooLate = form_too_late s e ≡ Some r
IsBrokenBy m s e r EdgesFull = (edges_full m s e ≡ Some r) × (not_in_progress s e ≡ None)
IsBrokenBy m s e r NoHeir = (no_heir m s e ≡ Some r) × (earlier_broken m s e ≡ None)
IsBrokenBy m s e r _ = (dependency s e ≡ Some r) × (earlier_broken m s e ≡ None)

-- P follows if the refusal is the first of the list that is present
abbrev pub Cases : Type 0 → Refusal → List (Option Refusal) → Type 0
Cases P r [] = ⊤
Cases P r (x ∷ xs) = (x ≡ Some r → P) × (x ≡ None → Cases P r xs)
