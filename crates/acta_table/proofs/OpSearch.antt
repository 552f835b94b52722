-- The result of a binary search among the operations of a set.
use Rattle.std.proofs.Common.{◌≡◌, ℕ, false, ◌==◌, ◌<◌, ◌≤◌, List, length, sym, subst, ⊎_elim, Less, Greater, arith, eq-eqb, ne_eqb}
use Rattle.std.specs.Prelude.{Result, Ok, Err, is_ok}
use Rattle.std.specs.Cmp.{ranks}
use Rattle.std.specs.List.Sorted.{IsStrictlySortedBy, IsBinarySearchResult, IsSearchInRange, IsNonDecreasingBy}
use Rattle.std.specs.Ordering.{nat_cmp, ordering_index, MatchOrdering}
use Rattle.std.proofs.lemmas.Bool.Decides.{nat_tests}
use Rattle.std.proofs.lemmas.List.{get_or-map, length-map}
use Rattle.std.proofs.lemmas.List.Elements.{All-from_get_or}
use Rattle.std.proofs.lemmas.List.Folds.{list_any_at, list_any_none}
use Rattle.std.proofs.lemmas.Map.Keys.{non_decreasing_from_sorted}
use Rattle.std.proofs.lemmas.Map.Lookups.{exact_unsigned}
use Rattle.std.proofs.lemmas.Bool.{cases_lt}
use Rattle.acta_table.specs.declared.event.OpNo.{OpNo}
use Rattle.acta_table.specs.Sets.{numbers_of, is_named}

below-is-other : (a n : ℕ) → nat_cmp a n ≡ Less → (a == n) ≡ false
below-is-other a n less = let lt : a < n = subst (λ o. MatchOrdering o (a < n) (a ≡ n) (n < a)) less (ranks a n) in ne_eqb a n (λ e. omega (arith, e, lt))

above-is-other : (a n : ℕ) → nat_cmp a n ≡ Greater → (a == n) ≡ false
above-is-other a n more = let lt : n < a = subst (λ o. MatchOrdering o (a < n) (a ≡ n) (n < a)) more (ranks a n) in ne_eqb a n (λ e. omega (arith, e, lt))

rises : (a b n : ℕ) → a ≤ b → ordering_index (nat_cmp a n) ≤ ordering_index (nat_cmp b n)
rises a b n le = grind (arith, nat_tests)

compared-rise : (ops : List OpNo) (n : ℕ) → IsStrictlySortedBy nat_cmp (numbers_of ops) → IsNonDecreasingBy (λ o. ordering_index (nat_cmp o.0 n)) ops
compared-rise ops n sorted i j d le lt =
    let long = length-map ops (λ (o : OpNo). o.0) in
    let at = non_decreasing_from_sorted (numbers_of ops) sorted i j 0 le (omega (arith, long, lt)) in
    let first = get_or-map (λ (o : OpNo). o.0) ops i d 0 (omega (arith, le, lt)) in
    let second = get_or-map (λ (o : OpNo). o.0) ops j d 0 lt in
    rises _ _ n (omega (arith, at, first, second))

-- it finds a position exactly if the set has the number
pub found-named : (ops : List OpNo) (n : ℕ) (r : Result ℕ ℕ) → IsStrictlySortedBy nat_cmp (numbers_of ops) → IsSearchInRange r (length ops) → IsBinarySearchResult (λ o. nat_cmp o.0 n) ops r → is_ok r ≡ is_named ops n
found-named ops n (Ok i) sorted within at =
    let none : OpNo = record { 0 = 0 } in
    sym (list_any_at (λ o. o.0 == n) ops i none within (eq-eqb _ n (exact_unsigned _ n (at none))))
found-named ops n (Err i) sorted within at =
    let none : OpNo = record { 0 = 0 } in
    let parted = at (compared-rise ops n sorted) in
    sym (list_any_none (λ o. o.0 == n) ops (All-from_get_or (λ o. (o.0 == n) ≡ false) ops none (λ k lt.
    ⊎_elim (λ below. below-is-other _ n (parted.0 k none (omega arith) below)) (λ from. above-is-other _ n (parted.1 k none from lt)) (cases_lt k i))))
