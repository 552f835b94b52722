-- Sets of kinds as bit masks.
use Rattle.std.proofs.Common.{◌≡◌, ℕ, zero, suc, ◌*◌, ◌^◌, ◌<◌, false, ◌||◌, ◌==◌, bit_and, bit_or, refl, ap, ◌∙◌, arith, max, Option, Some, None, option_map, eq-eqb}
use Rattle.std.specs.Int.{bit_at}
use Rattle.std.specs.Option.{option_map_or}
use Rattle.std.proofs.lemmas.Bool.{ne_eqb}
use Rattle.std.proofs.lemmas.Nat.Bits.{bit_at_or, bit_at-lt, and_pow}
use Rattle.acta_table.specs.Kinds.{has_bit}

max_one : (a b : ℕ) → a < 2 → b < 2 → (max a b == 1) ≡ ((a == 1) || (b == 1))
max_one zero zero x y = refl
max_one zero (suc zero) x y = refl
max_one (suc zero) zero x y = refl
max_one (suc zero) (suc zero) x y = refl
max_one (suc (suc a)) b x y = absurd (omega arith)
max_one a (suc (suc b)) x y = absurd (omega arith)

has_bit-or : (a b k : ℕ) → has_bit (bit_or a b) k ≡ (has_bit a k || has_bit b k)
has_bit-or a b k =
    ap (λ n. n == 1) (bit_at_or a b k)
    ∙ max_one (bit_at a k) (bit_at b k) (bit_at-lt a k) (bit_at-lt b k)

-- what is in either of two sets
pub in_either : (a b : ℕ) (code : Option ℕ) → option_map_or (has_bit (bit_or a b)) code false ≡ (option_map_or (has_bit a) code false || option_map_or (has_bit b) code false)
in_either a b None = refl
in_either a b (Some k) = has_bit-or a b k

times_is_one : (n p : ℕ) → n < 2 → 0 < p → (n * p == p) ≡ (n == 1)
times_is_one zero p x y = ne_eqb (0 * p) p (omega arith)
times_is_one (suc zero) p x y = eq-eqb (1 * p) p (omega arith)
times_is_one (suc (suc n)) p x y = absurd (omega arith)

pow_pos : (k : ℕ) → 0 < 2 ^ k
pow_pos zero = omega arith
pow_pos (suc k) = let h = pow_pos k in omega (arith, h)

contains_pow : (s k : ℕ) → (bit_and s (2 ^ k) == 2 ^ k) ≡ has_bit s k
contains_pow s k =
    ap (λ n. n == 2 ^ k) (and_pow s k) ∙ times_is_one (bit_at s k) (2 ^ k) (bit_at-lt s k) (pow_pos k)

-- the bit of a code is in the set where the code is
pub is_in : (s bit : ℕ) (code : Option ℕ) → Some bit ≡ option_map (λ k. 2 ^ k) code → (bit_and s bit == bit) ≡ option_map_or (has_bit s) code false
is_in s bit None e = cc
is_in s bit (Some k) e = let same : bit ≡ 2 ^ k = cc in rw same (contains_pow s k)
