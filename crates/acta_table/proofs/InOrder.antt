-- Lists of numbers that are already ascending.
use Rattle.std.specs.Prelude.{◌≡◌, ◌↔◌, ℕ, zero, suc, ◌+◌, ◌-◌, ◌<◌, nat_lt, ◌==◌, Bool, true, false, cond, List, [], ◌∷◌, ◌++◌, length, get_or, fold, IsTrue}
use Rattle.std.proofs.Common.{refl, sym, ap, subst, ◌∙◌, arith, Ordering, Less, Equal, Greater}
use Rattle.std.specs.List.{IsAllAdjacentAnswer}
use Rattle.std.specs.List.Sorted.{IsStrictlySortedBy}
use Rattle.std.specs.Ordering.{nat_cmp, match_ordering, is_lt}
use Rattle.std.specs.BTreeSet.{insert_key}
use Rattle.std.specs.Cmp.{nat_cmp_is}
use Rattle.std.proofs.lemmas.List.{append_assoc, append-nil, get_or_append_left, get_or-append_right, length-append, length-map, get_or-map}
use Rattle.std.proofs.lemmas.Bool.{ltb-true}
use Rattle.std.proofs.lemmas.Cmp.{nat_cmp_total}
use Rattle.std.proofs.lemmas.Map.Keys.{sorted_from_all_adjacent, Less-from_sorted}
use Rattle.acta_table.specs.declared.event.OpNo.{OpNo}
use Rattle.acta_table.specs.Numbered.{ascending}
use Rattle.acta_table.specs.Sets.{numbers_of, numbered, each_once}

less : (x y : ℕ) → true ≡ nat_lt x y → nat_cmp x y ≡ Less
less x y is = ap (λ b. cond b Less (cond (x == y) Equal Greater)) (sym is)

-- they are if each is below the next
pub in_order_by_next : (ops : List OpNo) (answer : Bool) → IsAllAdjacentAnswer (λ o p b. b ≡ nat_lt o.0 p.0) ops answer → IsTrue answer → IsStrictlySortedBy nat_cmp (numbers_of ops)
unfolding IsStrictlySortedBy
in_order_by_next [] answer each is = tt
in_order_by_next (o ∷ ops) true each is =
    let ns : List ℕ = numbers_of (o ∷ ops) in
    let long : length ns ≡ length (o ∷ ops) = length-map (o ∷ ops) (λ p. p.0) in
    sorted_from_all_adjacent nat_cmp_total ns 0
    (λ k within.
    let next : k + 1 < length (o ∷ ops) = omega arith in
    (λ x. nat_cmp (get_or-map (λ (p : OpNo). p.0) (o ∷ ops) k o 0 (omega arith) x) (get_or-map (λ (p : OpNo). p.0) (o ∷ ops) (k + 1) o 0 next x))
    ∙ less (get_or (o ∷ ops) k o).0 (get_or (o ∷ ops) (k + 1) o).0 (each k o next))
in_order_by_next (o ∷ ops) false each is = cc

below : (x y : ℕ) → nat_cmp x y ≡ Less → x < y
below x y e = of (nat_lt x y) refl e
  where
    of : (b : Bool) → nat_lt x y ≡ b → cond b Less (cond (x == y) Equal Greater) ≡ Less → x < y
    of true is e = ltb-true x y is
    of false is e = other (x == y) e
      where
        other : (b : Bool) → cond b Equal Greater ≡ Less → x < y
        other true e = cc
        other false e = cc

above : (x y : ℕ) → nat_cmp x y ≡ Less → nat_cmp y x ≡ Greater
above x y e = sym (nat_cmp_is y x Greater (below x y e))

-- a number above all others is appended
at_end : (keys : List ℕ) (n : ℕ) → ((i : ℕ) → i < length keys → nat_cmp (get_or keys i 0) n ≡ Less) → insert_key nat_cmp keys n ≡ keys ++ n ∷ []
at_end [] n low = refl
at_end (k ∷ keys) n low =
    ap (λ (o : Ordering). match_ordering o (n ∷ k ∷ keys) (k ∷ keys) (k ∷ insert_key nat_cmp keys n)) (above k n (low zero (omega arith)))
    ∙ ap (λ (rest : List ℕ). k ∷ rest) (at_end keys n (λ i within. low (suc i) (omega arith)))

put-behind : (keys ns : List ℕ) → IsStrictlySortedBy nat_cmp (keys ++ ns) → fold (insert_key nat_cmp) keys ns ≡ keys ++ ns
put-behind keys [] sorted = sym (append-nil keys)
put-behind keys (n ∷ ns) sorted =
    let all : List ℕ = keys ++ n ∷ ns in
    let long : length all ≡ length keys + length (n ∷ ns) = length-append keys (n ∷ ns) in
    let none : length keys - length keys ≡ 0 = omega arith in
    let there : get_or all (length keys) 0 ≡ n = get_or-append_right keys (n ∷ ns) (length keys) (length keys) 0 refl (omega arith) ∙ ap (λ i. get_or (n ∷ ns) i 0) none in
    let low : (i : ℕ) → i < length keys → nat_cmp (get_or keys i 0) n ≡ Less = λ i within.
    (λ x. nat_cmp (sym (get_or_append_left keys (n ∷ ns) 0 i within) x) (sym there x)) ∙ Less-from_sorted nat_cmp all i (length keys) 0 sorted within (omega arith) in
    ap (λ (front : List ℕ). fold (insert_key nat_cmp) front ns) (at_end keys n low)
    ∙ put-behind (keys ++ n ∷ []) ns (subst (IsStrictlySortedBy nat_cmp) (sym (append_assoc keys (n ∷ []) ns)) sorted)
    ∙ append_assoc keys (n ∷ []) ns

numbered-numbers : (ops : List OpNo) → ops ≡ numbered (numbers_of ops)
numbered-numbers [] = refl
numbered-numbers (o ∷ ops) = λ i. o ∷ numbered-numbers ops i

-- an ascending list of operations is its own set
pub each_once-sorted : (ops : List OpNo) → IsStrictlySortedBy nat_cmp (numbers_of ops) → ops ≡ each_once ops
each_once-sorted ops sorted = numbered-numbers ops ∙ ap numbered (sym (put-behind [] (numbers_of ops) sorted))
