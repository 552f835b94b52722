-- Each of the texts means a model: none has a fault. And each is the canonical text of this model.
use Rattle.std.proofs.Common.{◌≡◌, ℕ, true, List, [], ◌∷◌, refl, sym, ap, ◌∙◌, arith}
use Rattle.std.specs.Prelude.{Result, Ok, Err, is_ok, decimal}
use Rattle.std.proofs.lemmas.Bool.{true≢false}
use Rattle.std.proofs.lemmas.Fmt.{decimal_digit}
use Rattle.acta_table.specs.declared.model.Parts.{Parts}
use Rattle.acta_lang.specs.declared.fault.AsmFault.{AsmFault}
use Rattle.acta_lang.specs.Canonical.{canonical}
use Rattle.acta_lang.specs.Drafts.{extended}
use Rattle.acta_lang.specs.Faults.{not_ascii, bad_word, bad_name, duplicate_name, wrong_place, bad_number, too_many, missing_end, missing_part, begin_kind_at_start, heir_without_spawn, bad_policy_kind}
use Rattle.acta_lang.specs.Meaning.{meaning, meaning_after}
use Rattle.acta_models.specs.declared.texts.Standard.{Standard}
use Rattle.acta_models.specs.declared.texts.Standard.TheVariants.{Atomic, Nested, SplitJoin, Recoverable, Contingent}
use Rattle.acta_models.specs.Standards.{text_of_standard}

is_meant : (A : Type 0) (name : Standard) → is_ok (meaning {A = A} (text_of_standard name)) ≡ true
unfolding extended not_ascii bad_word bad_name duplicate_name wrong_place bad_number too_many missing_end missing_part begin_kind_at_start heir_without_spawn bad_policy_kind meaning_after
is_meant A Atomic = refl
is_meant A Nested = refl
is_meant A SplitJoin = refl
is_meant A Recoverable = refl
is_meant A Contingent = refl

pub no_fault : {A : Type 0} (name : Standard) (fault : AsmFault) → meaning {A = A} (text_of_standard name) ≡ Err fault → {X : Type 0} → X
no_fault {A = A} name fault h = absurd (true≢false (sym (is_meant A name) ∙ ap is_ok h))

zero_digit : decimal 0 ≡ 48 ∷ []
zero_digit = decimal_digit 0 (omega arith)

-- the canonical text of what a text means, if it means a model
text_again : {A : Type 0} → Result (Parts A) AsmFault → List ℕ
text_again (Ok m) = canonical m
text_again (Err fault) = []

is_text_again : (A : Type 0) (name : Standard) → text_again (meaning {A = A} (text_of_standard name)) ≡ text_of_standard name
unfolding text_again canonical extended not_ascii bad_word bad_name duplicate_name wrong_place bad_number too_many missing_end missing_part begin_kind_at_start heir_without_spawn bad_policy_kind meaning_after
is_text_again A Atomic = rw zero_digit
is_text_again A Nested = rw zero_digit
is_text_again A SplitJoin = rw zero_digit
is_text_again A Recoverable = rw zero_digit
is_text_again A Contingent = rw zero_digit

pub is_canonical : {A : Type 0} (name : Standard) (m : Parts A) → meaning (text_of_standard name) ≡ Ok m → canonical m ≡ text_of_standard name
unfolding text_again
is_canonical {A = A} name m h = sym (ap text_again h) ∙ is_text_again A name
