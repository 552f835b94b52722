-- The words of lines of a canonical text: the lines are printable, and are split into the same words again.
use Rattle.std.proofs.Common.{◌≡◌, ℕ, suc, ◌≤◌, ◌<◌, Bool, true, false, not, ◌&&◌, ◌||◌, ◌==◌, nat_le, List, [], ◌∷◌, map, filter, length, decimal, cond, inl, inr, pos, negsuc, ℤ, refl, sym, ap, ◌∙◌, true≢false, arith}
use Rattle.std.specs.Char.{is_ascii_alphanumeric}
use Rattle.std.specs.Fmt.{signed_decimal}
use Rattle.std.specs.List.{list_all, AllByRecursion}
use Rattle.std.specs.Str.Parse.{AllDigits}
use Rattle.std.proofs.lemmas.Bool.{and_parts, and_from, or_from, or_right, not-true, not_from_false, leb-true, le-leb, ltb-true, ne_eqb, eqb-true, cases_Bool, false_from_ne_true}
use Rattle.std.proofs.lemmas.Bool.Decides.{nat_tests}
use Rattle.std.proofs.lemmas.Fmt.{decimal_is_IsNumeral}
use Rattle.std.proofs.lemmas.List.Folds.{list_all-append}
use Rattle.std.proofs.lemmas.Str.Parse.{digit_from_value}
use Rattle.std.specs.Prelude.{FitsSigned}
use Rattle.std.specs.Int.{w32}
use Rattle.acta_table.specs.Faults.{is_name}
use Rattle.acta_words.specs.Text.{line_of}
use Rattle.acta_words.proofs.TextAgain.{IsOneLine, IsPlain, IsWord}
use Rattle.acta_lang.specs.Faults.{is_printable, not_ascii}

-- a printable byte that words may have
abbrev pub is_tidy : ℕ → Bool
is_tidy b = nat_le 33 b && nat_le b 126 && not (b == 35)

-- a word of such bytes, at least one
abbrev pub is_tidy_word : List ℕ → Bool
is_tidy_word word = not (length word == 0) && list_all is_tidy word

tidy_byte : (b : ℕ) → 33 ≤ b → b ≤ 126 → (b ≡ 35 → ⊥) → is_tidy b ≡ true
tidy_byte b low high other = and_from _ _ (and_from _ _ (le-leb 33 b low) (le-leb b 126 high)) (not_from_false (b == 35) (ne_eqb b 35 other))

not_at : (test : ℕ → Bool) (b n : ℕ) → test b ≡ true → test n ≡ false → (b == n) ≡ false
not_at test b n passes fails = false_from_ne_true (b == n) (λ e. true≢false (sym passes ∙ ap test (eqb-true b n e) ∙ fails))

plain : (b : ℕ) → is_tidy b ≡ true → IsPlain b
plain b h = record { inside = or_from _ _ (not_at is_tidy b 32 h refl) (not_at is_tidy b 9 h refl); counts = not_at is_tidy b 35 h refl }

plain_all : (bs : List ℕ) → list_all is_tidy bs ≡ true → AllByRecursion IsPlain bs
plain_all [] h = tt
plain_all (b ∷ bs) h = let parts = and_parts (is_tidy b) (list_all is_tidy bs) h in (plain b parts.0, plain_all bs parts.1)

printable : (b : ℕ) → is_tidy b ≡ true → is_printable b ≡ true
printable b h =
    let parts = and_parts (nat_le 33 b && nat_le b 126) (not (b == 35)) h in
    let bounds = and_parts (nat_le 33 b) (nat_le b 126) parts.0 in
    let low : 33 ≤ b = leb-true 33 b bounds.0 in
    or_right _ _ (and_from _ _ (le-leb 32 b (omega (arith, low))) bounds.1)

printable_all : (bs : List ℕ) → list_all is_tidy bs ≡ true → list_all is_printable bs ≡ true
printable_all [] h = refl
printable_all (b ∷ bs) h = let parts = and_parts (is_tidy b) (list_all is_tidy bs) h in and_from _ _ (printable b parts.0) (printable_all bs parts.1)

is_word : (word : List ℕ) → is_tidy_word word ≡ true → IsWord word
is_word word h =
    let parts = and_parts (not (length word == 0)) (list_all is_tidy word) h in
    record { some = not-true _ parts.0; plain = plain_all word parts.1 }

pub are_words : (words : List (List ℕ)) → list_all is_tidy_word words ≡ true → AllByRecursion IsWord words
are_words [] h = tt
are_words (word ∷ words) h = let parts = and_parts (is_tidy_word word) (list_all is_tidy_word words) h in (is_word word parts.0, are_words words parts.1)

line_printable : (words : List (List ℕ)) → list_all is_tidy_word words ≡ true → list_all is_printable (line_of words) ≡ true
line_printable [] h = refl
line_printable (word ∷ []) h = printable_all word (and_parts _ _ (and_parts (is_tidy_word word) true h).0).1
line_printable (word ∷ next ∷ words) h =
    let parts = and_parts (is_tidy_word word) (list_all is_tidy_word (next ∷ words)) h in
    list_all-append is_printable word (32 ∷ line_of (next ∷ words))
    ∙ and_from _ _ (printable_all word (and_parts _ _ parts.0).1) (line_printable (next ∷ words) parts.1)

pub line_ascii : (words : List (List ℕ)) → list_all is_tidy_word words ≡ true → not_ascii (line_of words) ≡ false
unfolding not_ascii
line_ascii words h = ap not (line_printable words h)

no_feed : (bs : List ℕ) → list_all is_printable bs ≡ true → IsOneLine bs
no_feed [] h = tt
no_feed (b ∷ bs) h = let parts = and_parts (is_printable b) (list_all is_printable bs) h in (not_at is_printable b 10 parts.0 refl, no_feed bs parts.1)

pub one_line : (words : List (List ℕ)) → list_all is_tidy_word words ≡ true → IsOneLine (line_of words)
one_line words h = no_feed (line_of words) (line_printable words h)

-- some of tidy words are tidy
pub tidy_kept : {X : Type 0} (f : X → List ℕ) (p : X → Bool) (xs : List X) → list_all is_tidy_word (map f xs) ≡ true → list_all is_tidy_word (map f (filter p xs)) ≡ true
tidy_kept f p [] h = refl
tidy_kept f p (x ∷ xs) h =
    let parts = and_parts (is_tidy_word (f x)) (list_all is_tidy_word (map f xs)) h in
    elim (cases_Bool (p x)) [
      | inl kept ↦ ap (λ b. list_all is_tidy_word (map f (cond b (x ∷ filter p xs) (filter p xs)))) kept ∙ and_from _ _ parts.0 (tidy_kept f p xs parts.1)
      | inr left ↦ ap (λ b. list_all is_tidy_word (map f (cond b (x ∷ filter p xs) (filter p xs)))) left ∙ tidy_kept f p xs parts.1
    ]

name_byte : (b : ℕ) → (is_ascii_alphanumeric b || (b == 95)) ≡ true → is_tidy b ≡ true
name_byte b h = grind (arith, nat_tests)

name_bytes : (bs : List ℕ) → list_all (λ b. is_ascii_alphanumeric b || (b == 95)) bs ≡ true → list_all is_tidy bs ≡ true
name_bytes [] h = refl
name_bytes (b ∷ bs) h =
    let parts = and_parts (is_ascii_alphanumeric b || (b == 95)) (list_all (λ b. is_ascii_alphanumeric b || (b == 95)) bs) h in
    and_from _ _ (name_byte b parts.0) (name_bytes bs parts.1)

some_bytes : (bs : List ℕ) → 0 < length bs → not (length bs == 0) ≡ true
some_bytes bs h = not_from_false _ (ne_eqb (length bs) 0 (λ e. omega (arith, e, h)))

-- names are tidy
pub tidy_name : (name : List ℕ) → is_name name ≡ true → is_tidy_word name ≡ true
tidy_name name h =
    let parts = and_parts _ (list_all (λ b. is_ascii_alphanumeric b || (b == 95)) name) h in
    let some = and_parts _ _ (and_parts _ _ parts.0).0 in
    and_from _ _ (some_bytes name (ltb-true 0 (length name) some.0)) (name_bytes name parts.1)

digit_bytes : (ds : List ℕ) → AllDigits 10 ds → list_all is_tidy ds ≡ true
digit_bytes [] all = refl
digit_bytes (c ∷ cs) all =
    let range = digit_from_value c all.0 in
    let low : 48 ≤ c = range.0 in
    let high : c ≤ 57 = range.1 in
    and_from _ _ (tidy_byte c (omega (arith, low)) (omega (arith, high)) (λ e. omega (arith, e, low))) (digit_bytes cs all.1)

-- so are numbers
pub tidy_number : (z : ℤ) → FitsSigned w32 z → is_tidy_word (signed_decimal z) ≡ true
tidy_number (pos n) small =
    let is = decimal_is_IsNumeral n (omega (arith, small)) in
    and_from _ _ (some_bytes (decimal n) is.0.0) (digit_bytes (decimal n) is.0.1)
tidy_number (negsuc n) small =
    let is = decimal_is_IsNumeral (suc n) (omega (arith, small)) in
    and_from _ _ (some_bytes (45 ∷ decimal (suc n)) (omega arith)) (digit_bytes (decimal (suc n)) is.0.1)
