-- Reading back a written number gives the same number.
use Rattle.std.proofs.Common.{◌≡◌, ℕ, suc, ◌-◌, ◌^◌, ◌<◌, ◌≤◌, Bool, true, false, ◌&&◌, cond, ◌==◌, nat_le, List, [], ◌∷◌, length, decimal, drop, Some, None, option_map, refl, ap, ◌∙◌, arith, pos, negsuc, neg_ℤ}
use Rattle.std.specs.Char.{is_ascii_digit}
use Rattle.std.specs.Fmt.{signed_decimal}
use Rattle.std.specs.List.{list_all}
use Rattle.std.specs.Str.Parse.{AllDigits, digits_value, starts_with_minus}
use Rattle.std.proofs.lemmas.Bool.{le-leb, lt-ltb, and_from}
use Rattle.std.proofs.lemmas.Bool.Decides.{nat_tests}
use Rattle.std.proofs.lemmas.Fmt.{decimal_is_IsNumeral}
use Rattle.std.proofs.lemmas.Str.Parse.{digit_from_value}
use Rattle.acta_words.specs.Numerals.{is_numeral, read_natural, read_integer}

is_digit : (c : ℕ) → 48 ≤ c → c ≤ 57 → is_ascii_digit c ≡ true
is_digit c low high = grind (arith, nat_tests)

all_digits : (ds : List ℕ) → AllDigits 10 ds → list_all is_ascii_digit ds ≡ true
all_digits [] all = refl
all_digits (c ∷ cs) all =
    let range = digit_from_value c all.0 in
    (λ i. is_digit c range.0 range.1 i && list_all is_ascii_digit cs) ∙ all_digits cs all.1

chosen : (test : Bool) (v n : ℕ) → test ≡ true → v ≡ n → cond test (Some v) None ≡ Some n
chosen test v n passes same = λ i. cond (passes i) (Some (same i)) None

-- the word of a number within the bound is read as this number
pub natural_again : (most n : ℕ) → n ≤ most → n < 2 ^ 64 → read_natural most (decimal n) ≡ Some n
natural_again most n within small =
    let is = decimal_is_IsNumeral n small in
    let numeral : is_numeral (decimal n) ≡ true = and_from _ _ (lt-ltb 0 (length (decimal n)) is.0.0) (all_digits (decimal n) is.0.1) in
    let bound : nat_le (digits_value 10 (decimal n)) most ≡ true = le-leb (digits_value 10 (decimal n)) most (omega (arith, is.1)) in
    chosen (is_numeral (decimal n) && nat_le (digits_value 10 (decimal n)) most) (digits_value 10 (decimal n)) n (and_from _ _ numeral bound) is.1

not_minus : (c : ℕ) → 48 ≤ c → (c == 45) ≡ false
not_minus c low = grind (arith, nat_tests)

unsigned : (ds : List ℕ) → AllDigits 10 ds → starts_with_minus ds ≡ false
unsigned [] all = refl
unsigned (c ∷ cs) all = not_minus c (digit_from_value c all.0).0

-- the word of a number from 0 on within the bounds is read as this number
pub positive_again : (bound n : ℕ) → n < bound → n < 2 ^ 64 → read_integer bound (signed_decimal (pos n)) ≡ Some (pos n)
positive_again bound n within small =
    ap (λ b. cond b (option_map (λ k. neg_ℤ (pos k)) (read_natural bound (drop 1 (decimal n)))) (option_map pos (read_natural (bound - 1) (decimal n)))) (unsigned (decimal n) (decimal_is_IsNumeral n small).0.1)
    ∙ ap (option_map pos) (natural_again (bound - 1) n (omega arith) small)

-- and so is that of a number below 0
pub negative_again : (bound n : ℕ) → n < bound → suc n < 2 ^ 64 → read_integer bound (signed_decimal (negsuc n)) ≡ Some (negsuc n)
negative_again bound n within small = ap (option_map (λ k. neg_ℤ (pos k))) (natural_again bound (suc n) (omega arith) small)
