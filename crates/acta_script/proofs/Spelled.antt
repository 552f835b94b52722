-- The words of events: each has a byte, and none has a blank, a comment mark or an equals sign.
use Rattle.std.proofs.Common.{◌≡◌, ◌≤◌, ◌<◌, ◌^◌, ℕ, suc, Bool, true, false, ◌&&◌, ◌||◌, not, ◌==◌, List, [], ◌∷◌, length, nat_lt, nat_le, slice_index, decimal, negsuc, refl, sym, ap, arith}
use Rattle.std.specs.Char.{is_ascii_alphabetic, is_ascii_alphanumeric}
use Rattle.std.specs.Fmt.{signed_decimal}
use Rattle.std.specs.List.{AllByRecursion, list_all}
use Rattle.std.specs.Str.{bytes_eq}
use Rattle.std.specs.Str.Parse.{AllDigits}
use Rattle.std.proofs.lemmas.Bool.{and_from, and_parts, or_parts, ltb-true}
use Rattle.std.proofs.lemmas.Bool.Decides.{nat_tests}
use Rattle.std.proofs.lemmas.Fmt.{decimal_is_IsNumeral}
use Rattle.std.proofs.lemmas.Str.Parse.{digit_from_value}
use Rattle.acta_words.specs.Text.{is_blank, is_mark}
use Rattle.acta_words.proofs.TextAgain.{IsPlain, IsWord}
use Rattle.acta_table.specs.Faults.{is_name}
use Rattle.acta_script.specs.Reading.{is_equals}

abbrev pub is_inside : ℕ → Bool
is_inside b = not (is_blank b || is_mark b || (b == 61))

abbrev pub is_spelled : List ℕ → Bool
is_spelled word = not (length word == 0) && list_all is_inside word

not_true : (b : Bool) → not b ≡ true → b ≡ false
not_true true e = sym e
not_true false e = refl

plain-byte : (b : ℕ) → is_inside b ≡ true → IsPlain b
plain-byte b inside =
    let parts = or_parts (is_blank b || is_mark b) (b == 61) (not_true (is_blank b || is_mark b || (b == 61)) inside) in
    let first = or_parts (is_blank b) (is_mark b) parts.0 in
    record { inside = first.0; counts = first.1 }

plain-bytes : (bs : List ℕ) → list_all is_inside bs ≡ true → AllByRecursion IsPlain bs
plain-bytes [] all = tt
plain-bytes (b ∷ bs) all =
    let parts = and_parts (is_inside b) (list_all is_inside bs) all in
    (plain-byte b parts.0, plain-bytes bs parts.1)

pub is_word : (word : List ℕ) → is_spelled word ≡ true → IsWord word
is_word word spelled =
    let parts = and_parts (not (length word == 0)) (list_all is_inside word) spelled in
    record { some = not_true (length word == 0) parts.0; plain = plain-bytes word parts.1 }

pub are_words : (words : List (List ℕ)) → list_all is_spelled words ≡ true → AllByRecursion IsWord words
are_words [] all = tt
are_words (word ∷ words) all =
    let parts = and_parts (is_spelled word) (list_all is_spelled words) all in
    (is_word word parts.0, are_words words parts.1)

pub no_sign : (word : List ℕ) → is_spelled word ≡ true → is_equals word ≡ false
no_sign [] spelled = refl
no_sign (b ∷ bs) spelled =
    let inside = and_parts (is_inside b) (list_all is_inside bs) (and_parts (not (length (b ∷ bs) == 0)) (list_all is_inside (b ∷ bs)) spelled).1 in
    let other = (or_parts (is_blank b || is_mark b) (b == 61) (not_true (is_blank b || is_mark b || (b == 61)) inside.0)).1 in
    ap (λ (t : Bool). t && bytes_eq bs []) other

digit-inside : (c : ℕ) → 48 ≤ c → c ≤ 57 → is_inside c ≡ true
digit-inside c low high = grind (arith, nat_tests)

digits-inside : (ds : List ℕ) → AllDigits 10 ds → list_all is_inside ds ≡ true
digits-inside [] all = refl
digits-inside (c ∷ cs) all =
    let range = digit_from_value c all.0 in
    and_from _ _ (digit-inside c range.0 range.1) (digits-inside cs all.1)

pub some_byte : (word : List ℕ) → 0 < length word → not (length word == 0) ≡ true
some_byte word some = grind (arith, nat_tests)

pub decimal-inside : (n : ℕ) → n < 2 ^ 64 → list_all is_inside (decimal n) ≡ true
decimal-inside n small = digits-inside (decimal n) (decimal_is_IsNumeral n small).0.1

pub decimal-spelled : (n : ℕ) → n < 2 ^ 64 → is_spelled (decimal n) ≡ true
decimal-spelled n small = and_from _ _ (some_byte (decimal n) (decimal_is_IsNumeral n small).0.0) (decimal-inside n small)

pub negative-spelled : (n : ℕ) → suc n < 2 ^ 64 → is_spelled (signed_decimal (negsuc n)) ≡ true
negative-spelled n small = and_from _ _ (some_byte (signed_decimal (negsuc n)) (omega arith)) (decimal-inside (suc n) small)

name-byte : (b : ℕ) → (is_ascii_alphanumeric b || (b == 95)) ≡ true → is_inside b ≡ true
name-byte b named = grind (arith, nat_tests)

name-bytes : (bs : List ℕ) → list_all (λ b. is_ascii_alphanumeric b || (b == 95)) bs ≡ true → list_all is_inside bs ≡ true
name-bytes [] all = refl
name-bytes (b ∷ bs) all =
    let parts = and_parts (is_ascii_alphanumeric b || (b == 95)) (list_all (λ c. is_ascii_alphanumeric c || (c == 95)) bs) all in
    and_from _ _ (name-byte b parts.0) (name-bytes bs parts.1)

pub name-spelled : (name : List ℕ) → is_name name ≡ true → is_spelled name ≡ true
name-spelled name named =
    let bytes = and_parts (nat_lt 0 (length name) && nat_le (length name) 32 && is_ascii_alphabetic (slice_index name 0)) (list_all (λ c. is_ascii_alphanumeric c || (c == 95)) name) named in
    let sizes = and_parts (nat_lt 0 (length name) && nat_le (length name) 32) (is_ascii_alphabetic (slice_index name 0)) bytes.0 in
    let some = and_parts (nat_lt 0 (length name)) (nat_le (length name) 32) sizes.0 in
    and_from _ _ (some_byte name (ltb-true 0 (length name) some.0)) (name-bytes name bytes.1)
