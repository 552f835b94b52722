-- What an ordered set contains after numbers were inserted one by one.
use Rattle.std.proofs.Common.{◌≡◌, ℕ, Bool, true, false, ◌&&◌, ◌||◌, ◌==◌, List, [], ◌∷◌, map, filter, fold, refl, sym, ap, ◌∙◌, inl, inr, Ordering, Less, Equal, Greater, ◌≢◌}
use Rattle.std.specs.Prelude.{if◌then◌else◌}
use Rattle.std.specs.List.{list_any}
use Rattle.std.specs.Ordering.{nat_cmp, match_ordering, is_eq}
use Rattle.std.specs.BTreeMap.{is_at}
use Rattle.std.specs.BTreeSet.{insert_key}
use Rattle.std.specs.Cmp.{nat_cmp_is}
use Rattle.std.proofs.lemmas.Bool.{eq-eqb, cases_eq, ne_eqb}
use Rattle.std.proofs.lemmas.Map.Lookups.{exact_unsigned}
use Rattle.acta_table.specs.Numbered.{ascending}

swapped : (a b c : Bool) → (a || (b || c)) ≡ (b || (a || c))
swapped true true c = refl
swapped true false c = refl
swapped false b c = refl

once : (a b : Bool) → (a || b) ≡ (a || (a || b))
once true b = refl
once false b = refl

-- one more insertion, by how the number compares with the first, given the result for the rest
inserted-by : (test : ℕ → Bool) (x k : ℕ) (xs rest : List ℕ) (order : Ordering) → nat_cmp k x ≡ order → list_any test rest ≡ (test k || list_any test xs) → list_any test (match_ordering order (k ∷ x ∷ xs) (x ∷ xs) (x ∷ rest)) ≡ (test k || (test x || list_any test xs))
inserted-by test x k xs rest Less is later = refl
inserted-by test x k xs rest Equal is later = once (test x) (list_any test xs) ∙ ap (λ y. test y || (test x || list_any test xs)) (sym (exact_unsigned k x is))
inserted-by test x k xs rest Greater is later = ap (λ b. test x || b) later ∙ swapped (test x) (test k) (list_any test xs)

-- whether a number of the set passes, after one more insertion
pub any-inserted : (test : ℕ → Bool) (keys : List ℕ) (k : ℕ) → list_any test (insert_key nat_cmp keys k) ≡ (test k || list_any test keys)
any-inserted test [] k = refl
any-inserted test (x ∷ xs) k = inserted-by test x k xs (insert_key nat_cmp xs k) (nat_cmp k x) refl (any-inserted test xs k)

regrouped : (a b c : Bool) → (a || (b || c)) ≡ ((b || a) || c)
regrouped true true c = refl
regrouped true false c = refl
regrouped false true c = refl
regrouped false false c = refl

any-put : (test : ℕ → Bool) (keys ns : List ℕ) → list_any test (fold (insert_key nat_cmp) keys ns) ≡ (list_any test ns || list_any test keys)
any-put test keys [] = refl
any-put test keys (n ∷ ns) =
    any-put test (insert_key nat_cmp keys n) ns
    ∙ ap (λ b. list_any test ns || b) (any-inserted test keys n)
    ∙ regrouped (list_any test ns) (test n) (list_any test keys)

or-nothing : (b : Bool) → (b || false) ≡ b
or-nothing true = refl
or-nothing false = refl

any-ascending : (test : ℕ → Bool) (ns : List ℕ) → list_any test (ascending ns) ≡ list_any test ns
any-ascending test ns = any-put test [] ns ∙ or-nothing (list_any test ns)

at-other : (u n : ℕ) (order : Ordering) → nat_cmp u n ≡ order → n ≢ u → is_eq order ≡ false
at-other u n Less is other = refl
at-other u n Equal is other = absurd (other (sym (exact_unsigned u n is)))
at-other u n Greater is other = refl

-- whether two numbers are equal, by comparing
pub at-number : (u n : ℕ) → is_at (nat_cmp u) n ≡ (n == u)
at-number u n =
    elim (cases_eq n u) [
      | inl e ↦ ap is_eq (sym (nat_cmp_is u n Equal (sym e))) ∙ sym (eq-eqb n u e)
      | inr ne ↦ at-other u n (nat_cmp u n) refl ne ∙ sym (ne_eqb n u ne)
    ]

-- whether a number is in a list, by comparing
pub any-number : (u : ℕ) (ns : List ℕ) → list_any (is_at (nat_cmp u)) ns ≡ list_any (λ n. n == u) ns
any-number u [] = refl
any-number u (n ∷ ns) = (λ i. at-number u n i || any-number u ns i)

-- a number is in the set of some numbers exactly if it is among them
pub in-ascending : (u : ℕ) (ns : List ℕ) → list_any (is_at (nat_cmp u)) (ascending ns) ≡ list_any (λ n. n == u) ns
in-ascending u ns = any-ascending (is_at (nat_cmp u)) ns ∙ any-number u ns

any-shown : {X : Type 0} (test : X → Bool) (show : X → ℕ) (u : ℕ) (xs : List X) → list_any (λ n. n == u) (map show (filter test xs)) ≡ list_any (λ x. (show x == u) && test x) xs
any-shown test show u [] = refl
any-shown test show u (x ∷ xs) = of (test x) ∙ ap (λ b. ((show x == u) && test x) || b) (any-shown test show u xs)
  where
    passes : (a : Bool) → a ≡ (a && true)
    passes true = refl
    passes false = refl

    fails : (a : Bool) → false ≡ (a && false)
    fails true = refl
    fails false = refl

    others : Bool
    others = list_any (λ n. n == u) (map show (filter test xs))

    of : (b : Bool) → list_any (λ n. n == u) (map show (if b then x ∷ filter test xs else filter test xs)) ≡ (((show x == u) && b) || others)
    of true = ap (λ a. a || others) (passes (show x == u))
    of false = ap (λ a. a || others) (fails (show x == u))

-- a number is in the set made from the passing items exactly if a passing item shows it
pub in-passing : {X : Type 0} (test : X → Bool) (show : X → ℕ) (u : ℕ) (xs : List X) → list_any (is_at (nat_cmp u)) (ascending (map show (filter test xs))) ≡ list_any (λ x. (show x == u) && test x) xs
in-passing test show u xs = in-ascending u (map show (filter test xs)) ∙ any-shown test show u xs

-- inserting an item's number if it passes leaves one item less to insert
pub one-put : {X : Type 0} (test : X → Bool) (show : X → ℕ) (keys : List ℕ) (x : X) (xs : List X) →
    fold (insert_key nat_cmp) (if test x then insert_key nat_cmp keys (show x) else keys) (map show (filter test xs)) ≡ fold (insert_key nat_cmp) keys (map show (filter test (x ∷ xs)))
one-put test show keys x xs = of (test x)
  where
    of : (b : Bool) → fold (insert_key nat_cmp) (if b then insert_key nat_cmp keys (show x) else keys) (map show (filter test xs)) ≡ fold (insert_key nat_cmp) keys (map show (if b then x ∷ filter test xs else filter test xs))
    of true = refl
    of false = refl
