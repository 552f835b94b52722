-- Properties of a line without a code.
use Rattle.std.proofs.Common.{◌≡◌, ℕ, Bool, true, false, not, ◌&&◌, ◌||◌, nat_le, List, [], ◌∷◌, fold, length, Option, Some, None, refl}
use Rattle.std.specs.Option.{option_or, option_map_or}
use Rattle.acta_table.specs.Faults.{is_name, lacks_parents}
use Rattle.acta_table.specs.declared.limits.TheConstants.{MOST_CLASSES, MOST_OBJECTS}
use Rattle.acta_words.specs.Text.{is_word_among}
use Rattle.acta_lang.specs.declared.fault.Code.{Code}
use Rattle.acta_lang.specs.declared.fault.Code.TheVariants.{NotAscii, BadWord, BadName, DuplicateName, WrongPlace, BadNumber, TooMany, MissingEnd, MissingPart, BeginKindAtStart, HeirWithoutSpawn, BadPolicyKind}
use Rattle.acta_lang.specs.declared.form.Form.{Form}
use Rattle.acta_lang.specs.Drafts.{Draft, closed, extended}
use Rattle.acta_lang.specs.Faults.{is_object, is_class, is_end, object_names, class_names, not_ascii, bad_word, bad_name, duplicate_name, wrong_place, bad_number, too_many, missing_end, missing_part, begin_kind_at_start, heir_without_spawn, bad_policy_kind, code_if, lowest_of}
use Rattle.acta_lang.specs.Forms.{name_in}

or_none : {X : Type 0} (a b : Option X) → option_or a b ≡ None → (a ≡ None) × (b ≡ None)
or_none None b e = (refl, e)
or_none (Some x) b e = absurd (cc)

no_code : (b : Bool) (code : Code) → code_if b code ≡ None → b ≡ false
no_code true code e = cc
no_code false code e = refl

pub record HasNoCode {A : Type 0} (d : Draft A) (is_last : Bool) (line : List ℕ) (words : List (List ℕ)) (parsed : Form) : Type 0 where
  pub known : bad_word parsed ≡ false
  pub named : ((is_object parsed || is_class parsed) && not (is_name (name_in words))) ≡ false
  pub new : (is_object parsed && is_word_among (object_names d) (name_in words) || is_class parsed && is_word_among (class_names d) (name_in words)) ≡ false
  pub place : wrong_place d parsed ≡ false
  pub room : (is_object parsed && nat_le MOST_OBJECTS (length d.objects) || is_class parsed && nat_le MOST_CLASSES (length d.classes)) ≡ false
  pub ended : missing_end is_last (extended d words parsed) ≡ false
  pub whole : missing_part is_last d (extended d words parsed) parsed ≡ false
  pub edge : begin_kind_at_start parsed ≡ false
  pub heir : (is_end parsed && option_map_or (λ c. lacks_parents (closed {A = A} c)) d.current false) ≡ false
  pub policy : bad_policy_kind parsed ≡ false

-- a line has no code exactly if it passes no test
pub no_test : {A : Type 0} (d : Draft A) (is_last : Bool) (line : List ℕ) (words : List (List ℕ)) (parsed : Form) → lowest_of d (extended d words parsed) is_last line words parsed ≡ None → HasNoCode d is_last line words parsed
unfolding bad_name duplicate_name too_many heir_without_spawn
no_test d is_last line words parsed none =
    let behind = extended d words parsed in
    let policy = or_none _ (code_if (bad_policy_kind parsed) BadPolicyKind) none in
    let heir = or_none _ (code_if (heir_without_spawn d parsed) HeirWithoutSpawn) policy.0 in
    let edge = or_none _ (code_if (begin_kind_at_start parsed) BeginKindAtStart) heir.0 in
    let whole = or_none _ (code_if (missing_part is_last d behind parsed) MissingPart) edge.0 in
    let ended = or_none _ (code_if (missing_end is_last behind) MissingEnd) whole.0 in
    let room = or_none _ (code_if (too_many d parsed) TooMany) ended.0 in
    let number = or_none _ (code_if (bad_number words parsed) BadNumber) room.0 in
    let place = or_none _ (code_if (wrong_place d parsed) WrongPlace) number.0 in
    let new = or_none _ (code_if (duplicate_name d words parsed) DuplicateName) place.0 in
    let named = or_none _ (code_if (bad_name words parsed) BadName) new.0 in
    let known = or_none _ (code_if (bad_word parsed) BadWord) named.0 in
    record {
      known = no_code _ BadWord known.1;
      named = no_code _ BadName named.1;
      new = no_code _ DuplicateName new.1;
      place = no_code _ WrongPlace place.1;
      room = no_code _ TooMany room.1;
      ended = no_code _ MissingEnd ended.1;
      whole = no_code _ MissingPart whole.1;
      edge = no_code _ BeginKindAtStart edge.1;
      heir = no_code _ HeirWithoutSpawn heir.1;
      policy = no_code _ BadPolicyKind policy.1;
    }

-- a line that passes no test has no code
pub clear : {A : Type 0} (d behind : Draft A) (is_last : Bool) (line : List ℕ) (words : List (List ℕ)) (parsed : Form) → not_ascii line ≡ false → bad_word parsed ≡ false → bad_name words parsed ≡ false
    → duplicate_name d words parsed ≡ false → wrong_place d parsed ≡ false → bad_number words parsed ≡ false → too_many d parsed ≡ false → missing_end is_last behind ≡ false
    → missing_part is_last d behind parsed ≡ false → begin_kind_at_start parsed ≡ false → heir_without_spawn d parsed ≡ false → bad_policy_kind parsed ≡ false
    → lowest_of d behind is_last line words parsed ≡ None
clear d behind is_last line words parsed ascii known named new place number room ended whole edge heir policy = λ i. fold option_or None (
    code_if (ascii i) NotAscii
    ∷ code_if (known i) BadWord
    ∷ code_if (named i) BadName
    ∷ code_if (new i) DuplicateName
    ∷ code_if (place i) WrongPlace
    ∷ code_if (number i) BadNumber
    ∷ code_if (room i) TooMany
    ∷ code_if (ended i) MissingEnd
    ∷ code_if (whole i) MissingPart
    ∷ code_if (edge i) BeginKindAtStart
    ∷ code_if (heir i) HeirWithoutSpawn
    ∷ code_if (policy i) BadPolicyKind
    ∷ [])
