-- A refusal names the rule that is broken.
use Rattle.std.proofs.Common.{◌≡◌, ℕ, Bool, true, false, List, [], ◌∷◌, fold, Option, Some, None, refl, sym, ap, subst}
use Rattle.std.specs.Prelude.{IfSome}
use Rattle.std.specs.Option.{option_or}
use Rattle.std.proofs.lemmas.Option.{same_Some}
use Rattle.acta_table.specs.declared.answer.Refusal.{Refusal}
use Rattle.acta_table.specs.declared.answer.Rule.{Rule}
use Rattle.acta_table.specs.declared.answer.Rule.TheVariants.{Full, BadNumber, BadClass, BadObject, BadOperation, SameTransaction, NotInProgress, AlreadyBegun, NotInModel, PartnerNotInProgress, NotResponsible, PartialDelegation, BadSet, Conflict, FormTooLate, EdgesFull, NoHeir}
use Rattle.acta_table.specs.declared.event.Event.{Event}
use Rattle.acta_table.specs.declared.model.Parts.{Parts}
use Rattle.acta_table.specs.Refusals.{broken_if, broken_by, first_of}
use Rattle.acta_table.specs.WellFormed.{bad_number, bad_class, bad_object, same_transaction}
use Rattle.acta_objects.specs.WellFormed.{bad_operation}
use Rattle.acta_machine.specs.Exactness.{is_dependency_rule}
use Rattle.acta_machine.specs.Summary.{Summary}
use Rattle.acta_machine.specs.Rules.{full, not_in_progress, already_begun, not_in_model, partner_not_in_progress, not_responsible, partial_delegation, bad_set, conflict, form_too_late, edges_full, broken_before_conflict, broken_before_edges, earlier_broken, dependency, no_heir, lowest_broken}
use Rattle.acta_machine.proofs.Broken.{or_none}
use Rattle.acta_machine.proofs.Exactness.{dependency-rule}
use Rattle.acta_hope.specs.Rulings.{IsBrokenBy, Cases}

rule-if : (b : Bool) (rule : Rule) (r : Refusal) → broken_if b rule ≡ Some r → r.rule ≡ rule
rule-if true rule r e = sym (ap (λ x. x.rule) (same_Some _ _ e))
rule-if false rule r e = cc

rule-by : (n : Option ℕ) (rule : Rule) (r : Refusal) → broken_by rule n ≡ Some r → r.rule ≡ rule
rule-by (Some n) rule r e = sym (ap (λ x. x.rule) (same_Some _ _ e))
rule-by None rule r e = cc

found-from : (P : Type 0) (r : Refusal) (xs : List (Option Refusal)) (z : Option Refusal) → (z ≡ Some r → P) → (z ≡ None → Cases P r xs) → fold option_or z xs ≡ Some r → P
found-from P r [] None f g e = cc
found-from P r [] (Some y) f g e = f e
found-from P r (x ∷ xs) None f g e = let c = g refl in found-from P r xs x c.0 c.1 e
found-from P r (x ∷ xs) (Some y) f g e = found-from P r xs (Some y) f (λ n. absurd (cc)) e

pub found : (P : Type 0) (r : Refusal) (xs : List (Option Refusal)) → Cases P r xs → first_of xs ≡ Some r → P
found P r xs cases e = found-from P r xs None (λ n. absurd (cc)) (λ n. cases) e

-- if no rule is broken, the first of some is not
pub none-from : (z : Option Refusal) (xs : List (Option Refusal)) → fold option_or z xs ≡ None → z ≡ None
none-from None xs e = refl
none-from (Some r) [] e = cc
none-from (Some r) (x ∷ xs) e = none-from (Some r) xs e

-- if no rule before the one on conflicts is broken, the acting transaction is in progress
none-acting : {A : Type 0} (m : Parts A) (s : Summary) (e : Event A) → broken_before_conflict m s e ≡ None → not_in_progress s e ≡ None
none-acting m s e none =
    (or_none (first_of (full s ∷ bad_number e ∷ bad_class m e ∷ bad_object m e ∷ bad_operation m e ∷ same_transaction e ∷ [])) (not_in_progress s e)
    (none-from (first_of (full s ∷ bad_number e ∷ bad_class m e ∷ bad_object m e ∷ bad_operation m e ∷ same_transaction e ∷ not_in_progress s e ∷ []))
    (already_begun s e ∷ not_in_model m s e ∷ partner_not_in_progress s e ∷ not_responsible s e ∷ partial_delegation m s e ∷ bad_set s e ∷ []) none)).1

module _ {A : Type 0} (m : Parts A) (s : Summary) (e : Event A) (r : Refusal) where
  abbrev Is : Type 0
  Is = IsBrokenBy m s e r r.rule

  named : (rule : Rule) → r.rule ≡ rule → IsBrokenBy m s e r rule → Is
  named rule same is = subst (IsBrokenBy m s e r) (sym same) is

  by-dependency : (rule : Rule) → is_dependency_rule rule ≡ true → (dependency s e ≡ Some r) × (earlier_broken m s e ≡ None) → IsBrokenBy m s e r rule
  by-dependency Full is b = cc
  by-dependency BadNumber is b = cc
  by-dependency BadClass is b = cc
  by-dependency BadObject is b = cc
  by-dependency BadOperation is b = cc
  by-dependency SameTransaction is b = cc
  by-dependency NotInProgress is b = cc
  by-dependency AlreadyBegun is b = cc
  by-dependency NotInModel is b = cc
  by-dependency PartnerNotInProgress is b = cc
  by-dependency NotResponsible is b = cc
  by-dependency PartialDelegation is b = cc
  by-dependency BadSet is b = cc
  by-dependency Conflict is b = cc
  by-dependency FormTooLate is b = cc
  by-dependency EdgesFull is b = cc
  by-dependency NoHeir is b = cc
  by-dependency _ is b = b

  dependency-named : earlier_broken m s e ≡ None → dependency s e ≡ Some r → Is
  dependency-named fine broken = by-dependency r.rule (subst (λ (o : Option Refusal). IfSome o (λ x. is_dependency_rule x.rule ≡ true)) broken (dependency-rule s e)) (broken, fine)

  before-conflict : broken_before_conflict m s e ≡ Some r → Is
  unfolding full bad_number bad_class bad_object bad_operation same_transaction not_in_progress already_begun not_in_model partner_not_in_progress not_responsible partial_delegation bad_set
  before-conflict broken =
      found Is r (full s ∷ bad_number e ∷ bad_class m e ∷ bad_object m e ∷ bad_operation m e ∷ same_transaction e ∷ not_in_progress s e ∷ already_begun s e ∷ not_in_model m s e ∷ partner_not_in_progress s e ∷ not_responsible s e ∷ partial_delegation m s e ∷ bad_set s e ∷ []) (
        (λ h. named Full (rule-if _ Full r h) h),
        λ n1. (
          (λ h. named BadNumber (rule-by _ BadNumber r h) h),
          λ n2. (
            (λ h. named BadClass (rule-if _ BadClass r h) h),
            λ n3. (
              (λ h. named BadObject (rule-if _ BadObject r h) h),
              λ n4. (
                (λ h. named BadOperation (rule-if _ BadOperation r h) h),
                λ n5. (
                  (λ h. named SameTransaction (rule-by _ SameTransaction r h) h),
                  λ n6. (
                    (λ h. named NotInProgress (rule-by _ NotInProgress r h) h),
                    λ n7. (
                      (λ h. named AlreadyBegun (rule-by _ AlreadyBegun r h) h),
                      λ n8. (
                        (λ h. named NotInModel (rule-if _ NotInModel r h) (h, n7)),
                        λ n9. (
                          (λ h. named PartnerNotInProgress (rule-by _ PartnerNotInProgress r h) h),
                          λ n10. (
                            (λ h. named NotResponsible (rule-by _ NotResponsible r h) h),
                            λ n11. (
                              (λ h. named PartialDelegation (rule-by _ PartialDelegation r h) (h, n7)),
                              λ n12.
                                  ((λ h. named BadSet (rule-by _ BadSet r h) h), λ n13. tt),
                            ),
                          ),
                        ),
                      ),
                    ),
                  ),
                ),
              ),
            ),
          ),
        ),
      )
      broken

  before-edges : broken_before_edges m s e ≡ Some r → Is
  unfolding conflict form_too_late
  before-edges broken =
      found Is r (broken_before_conflict m s e ∷ conflict m s e ∷ form_too_late s e ∷ []) (
        before-conflict,
        λ n1. (
          (λ h. named Conflict (rule-by _ Conflict r h) (h, none-acting m s e n1)),
          λ n2.
              ((λ h. named FormTooLate (rule-by _ FormTooLate r h) h), λ n3. tt),
        ),
      )
      broken

  earlier : earlier_broken m s e ≡ Some r → Is
  unfolding edges_full
  earlier broken =
      found Is r (broken_before_edges m s e ∷ edges_full m s e ∷ [])
      (before-edges, λ n1. ((λ h. named EdgesFull (rule-if _ EdgesFull r h) (h, none-acting m s e (none-from (broken_before_conflict m s e) (conflict m s e ∷ form_too_late s e ∷ []) n1))), λ n2. tt))
      broken

  -- the rule that is named is broken
  pub is-broken : lowest_broken m s e ≡ Some r → IsBrokenBy m s e r r.rule
  unfolding no_heir
  is-broken broken =
      found Is r (earlier_broken m s e ∷ dependency s e ∷ no_heir m s e ∷ [])
      (earlier, λ n1. (dependency-named n1, λ n2. ((λ h. named NoHeir (rule-by _ NoHeir r h) (h, n1)), λ n3. tt)))
      broken

pub none-full : {A : Type 0} (m : Parts A) (s : Summary) (e : Event A) → earlier_broken m s e ≡ None → full s ≡ None
none-full m s e none =
    none-from (full s) (bad_number e ∷ bad_class m e ∷ bad_object m e ∷ bad_operation m e ∷ same_transaction e ∷ not_in_progress s e ∷ already_begun s e ∷ not_in_model m s e ∷ partner_not_in_progress s e ∷ not_responsible s e ∷ partial_delegation m s e ∷ bad_set s e ∷ [])
    (none-from (broken_before_conflict m s e) (conflict m s e ∷ form_too_late s e ∷ [])
    (none-from (broken_before_edges m s e) (edges_full m s e ∷ []) none))
