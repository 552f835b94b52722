-- Trails: their order, removals, and the last item.
use Rattle.std.proofs.Common.{◌≡◌, ◌≢◌, ℕ, zero, suc, ◌-◌, ◌<◌, ◌≤◌, ◌==◌, Bool, true, false, not, List, [], ◌∷◌, ◌++◌, length, get_or, refl, sym, ap, ◌∙◌, subst, ⊎_elim, Less, Greater, arith, eq-eqb, ne_eqb}
use Rattle.std.specs.Prelude.{cond, Ok, Err}
use Rattle.std.specs.Cmp.{ranks}
use Rattle.std.specs.List.{AllByRecursion, remove}
use Rattle.std.specs.List.Sorted.{IsBinarySearchResult, IsNonDecreasingBy}
use Rattle.std.specs.Ordering.{nat_cmp, ordering_index, MatchOrdering}
use Rattle.std.proofs.lemmas.Bool.Decides.{nat_tests}
use Rattle.std.proofs.lemmas.List.Elements.{recursion_from_All}
use Rattle.std.proofs.lemmas.Map.Lookups.{exact_unsigned}
use Rattle.std.proofs.lemmas.Bool.{cases_lt}
use Rattle.acta_values.specs.declared.trail.Numbered.{Numbered}
use Rattle.acta_values.specs.Trails.{without, AreBelow, AreAbove, IsAscending, last_or}

-- ---- the order

above_push : {T : Type 0} (n : ℕ) (xs : List (Numbered T)) (x : Numbered T) → AreAbove n xs → n < x.number → AreAbove n (xs ++ x ∷ [])
above_push n [] x above more = (more, tt)
above_push n (y ∷ xs) x above more = (above.0, above_push n xs x above.1 more)

pub ascending_push : {T : Type 0} (xs : List (Numbered T)) (x : Numbered T) → IsAscending xs → AreBelow x.number xs → IsAscending (xs ++ x ∷ [])
ascending_push [] x ascending below = (tt, tt)
ascending_push (y ∷ xs) x ascending below =
    (above_push y.number xs x ascending.0 below.0, ascending_push xs x ascending.1 below.1)

above_kept : {T : Type 0} (n m : ℕ) (xs : List (Numbered T)) → AreAbove m xs → AreAbove m (without n xs)
above_kept n m [] above = tt
above_kept n m (x ∷ xs) above = at (not (x.number == n)) (above_kept n m xs above.1)
  where
    at : (b : Bool) → AreAbove m (without n xs) → AreAbove m (cond b (x ∷ without n xs) (without n xs))
    at true later = (above.0, later)
    at false later = later

pub ascending_without : {T : Type 0} (n : ℕ) (xs : List (Numbered T)) → IsAscending xs → IsAscending (without n xs)
ascending_without n [] ascending = tt
ascending_without n (x ∷ xs) ascending = at (not (x.number == n)) (ascending_without n xs ascending.1)
  where
    at : (b : Bool) → IsAscending (without n xs) → IsAscending (cond b (x ∷ without n xs) (without n xs))
    at true later = (above_kept n x.number xs ascending.0, later)
    at false later = later

-- ---- what is taken out

above_others : {T : Type 0} (n : ℕ) (xs : List (Numbered T)) → AreAbove n xs → AllByRecursion (λ x. x.number ≢ n) xs
above_others n [] above = tt
above_others n (x ∷ xs) above = ((λ e. omega (arith, above.0, e)), above_others n xs above.1)

pub without_none : {T : Type 0} (n : ℕ) (xs : List (Numbered T)) → AllByRecursion (λ x. x.number ≢ n) xs → without n xs ≡ xs
without_none n [] others = refl
without_none n (x ∷ xs) others =
    ap (λ b. cond (not b) (x ∷ without n xs) (without n xs)) (ne_eqb _ _ others.0)
    ∙ ap (λ ys. x ∷ ys) (without_none n xs others.1)

above_at : {T : Type 0} (n : ℕ) (xs : List (Numbered T)) (i : ℕ) (d : Numbered T) → AreAbove n xs → i < length xs → n < (get_or xs i d).number
above_at n [] i d above within = absurd (omega arith)
above_at n (x ∷ xs) zero d above within = above.0
above_at n (x ∷ xs) (suc i) d above within = above_at n xs i d above.1 (omega arith)

pub ascending_at : {T : Type 0} (xs : List (Numbered T)) (i j : ℕ) (d : Numbered T) → IsAscending xs → i < j → j < length xs → (get_or xs i d).number < (get_or xs j d).number
ascending_at [] i j d ascending less within = absurd (omega arith)
ascending_at (x ∷ xs) i zero d ascending less within = absurd (omega arith)
ascending_at (x ∷ xs) zero (suc j) d ascending less within = above_at x.number xs j d ascending.0 (omega arith)
ascending_at (x ∷ xs) (suc i) (suc j) d ascending less within = ascending_at xs i j d ascending.1 (omega arith) (omega arith)

-- the one at the place where the number is found
pub removed_at : {T : Type 0} (n : ℕ) (xs : List (Numbered T)) (i : ℕ) (d : Numbered T) → IsAscending xs → i < length xs → (get_or xs i d).number ≡ n → remove xs i ≡ without n xs
removed_at n [] i d ascending within is = absurd (omega arith)
removed_at n (x ∷ xs) zero d ascending within is =
    sym (ap (λ b. cond (not b) (x ∷ without n xs) (without n xs)) (eq-eqb _ _ is) ∙ without_none n xs (above_others n xs (subst (λ m. AreAbove m xs) is ascending.0)))
removed_at n (x ∷ xs) (suc i) d ascending within is =
    let later : i < length xs = omega arith in
    let less : x.number < (get_or xs i d).number = above_at x.number xs i d ascending.0 later in
    ap (λ ys. x ∷ ys) (removed_at n xs i d ascending.1 later is)
    ∙ sym (ap (λ b. cond (not b) (x ∷ without n xs) (without n xs)) (ne_eqb x.number n (λ e. omega (arith, e, less, is))))

-- ---- what a search by number finds

rises : (a b n : ℕ) → a ≤ b → ordering_index (nat_cmp a n) ≤ ordering_index (nat_cmp b n)
rises a b n le = grind (arith, nat_tests)

compared-rise : {T : Type 0} (xs : List (Numbered T)) (n : ℕ) → IsAscending xs → IsNonDecreasingBy (λ x. ordering_index (nat_cmp x.number n)) xs
compared-rise xs n ascending i j d le lt =
    ⊎_elim (λ less. rises _ _ n (let step = ascending_at xs i j d ascending less lt in omega (arith, step))) (λ not_less. rises _ _ n (let same : i ≡ j = omega arith in subst (λ k. (get_or xs i d).number ≤ (get_or xs k d).number) same (omega arith))) (cases_lt i j)

below_is_other : (a n : ℕ) → nat_cmp a n ≡ Less → a ≢ n
below_is_other a n less same = let lt : a < n = subst (λ o. MatchOrdering o (a < n) (a ≡ n) (n < a)) less (ranks a n) in omega arith

above_is_other : (a n : ℕ) → nat_cmp a n ≡ Greater → a ≢ n
above_is_other a n more same = let lt : n < a = subst (λ o. MatchOrdering o (a < n) (a ≡ n) (n < a)) more (ranks a n) in omega arith

-- it returns a place if some item has the number
pub found_at : {T : Type 0} (xs : List (Numbered T)) (n i : ℕ) (d : Numbered T) → IsBinarySearchResult (λ x. nat_cmp x.number n) xs (Ok i) → (get_or xs i d).number ≡ n
found_at xs n i d at = exact_unsigned _ n (at d)

-- or that no item has it
pub found_none : {T : Type 0} (xs : List (Numbered T)) (n i : ℕ) → IsAscending xs → IsBinarySearchResult (λ x. nat_cmp x.number n) xs (Err i) → without n xs ≡ xs
found_none xs n i ascending at =
    let parted = at (compared-rise xs n ascending) in
    without_none n xs (recursion_from_All (λ x. x.number ≢ n) xs (λ k d lt.
    ⊎_elim (λ below. below_is_other _ n (parted.0 k d (omega arith) below)) (λ from. above_is_other _ n (parted.1 k d from lt)) (cases_lt k i)))

-- ---- the last item

pub last_at : {T : Type 0} (xs : List (Numbered T)) (t : T) (x : Numbered T) → 0 < length xs → x ≡ get_or xs (length xs - 1) x → x.item ≡ last_or t xs
last_at [] t x some is = absurd (omega arith)
last_at (y ∷ []) t x some is = ap (λ z. z.item) is
last_at (y ∷ z ∷ xs) t x some is = last_at (z ∷ xs) y.item x (omega arith) (is ∙ ap (λ k. get_or (y ∷ z ∷ xs) k x) place)
  where
    place : length (y ∷ z ∷ xs) - 1 ≡ suc (length (z ∷ xs) - 1)
    place = omega arith

pub last_push : {T : Type 0} (t : T) (xs : List (Numbered T)) (x : Numbered T) → last_or t (xs ++ x ∷ []) ≡ x.item
last_push t [] x = refl
last_push t (y ∷ xs) x = last_push y.item xs x
