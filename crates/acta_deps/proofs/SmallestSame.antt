-- Lists with the same numbers have the same smallest number.
use Rattle.std.proofs.Common.{◌≡◌, ℕ, ◌≤◌, Bool, true, false, ◌==◌, List, [], ◌∷◌, ◌++◌, Option, Some, None, min, refl, sym, ap, ◌∙◌, inl, inr, arith, ◌⊎◌}
use Rattle.std.specs.Option.{option_map_or}
use Rattle.std.specs.List.{list_any}
use Rattle.std.proofs.lemmas.Bool.{cases_lt, eq-eqb, eqb-true, or_cases, or_left, or_right, true≢false}
use Rattle.acta_table.specs.Numbered.{smallest}
use Rattle.acta_table.proofs.Smallest.{least_from}

-- whether a number is in the list
abbrev pub has : List ℕ → ℕ → Bool
has ns u = list_any (λ n. n == u) ns

some-is : {m n : ℕ} → Some m ≡ Some n → m ≡ n
some-is e = cc

none-some : {n : ℕ} (o : Option ℕ) → o ≡ None → o ≡ Some n → ⊥
none-some o e h = cc

least-in-by : (n : ℕ) (ns : List ℕ) (m : ℕ) (o : Option ℕ) → smallest ns ≡ o → ((k : ℕ) → o ≡ Some k → has ns k ≡ true) → Some (option_map_or (min n) o n) ≡ Some m → has (n ∷ ns) m ≡ true
least-in-by n ns m None is before e = or_left (n == m) (has ns m) (eq-eqb n m (some-is e))
least-in-by n ns m (Some k) is before e =
    let here : min n k ≡ m = some-is e in
    elim (cases_lt n k) [
      | inl less ↦ or_left (n == m) (has ns m) (eq-eqb n m (omega arith))
      | inr more ↦ or_right (n == m) (has ns m) (let same : k ≡ m = omega arith in ap (has ns) (sym same) ∙ before k refl)
    ]

-- the smallest is in the list
pub least-in : (ns : List ℕ) (m : ℕ) → smallest ns ≡ Some m → has ns m ≡ true
least-in [] m e = absurd (none-some (smallest []) refl e)
least-in (n ∷ ns) m e = least-in-by n ns m (smallest ns) refl (λ k is. least-in ns k is) e

low-by : (n : ℕ) (ns : List ℕ) (m u : ℕ) (o : Option ℕ) → ((k : ℕ) → o ≡ Some k → has ns u ≡ true → k ≤ u) → (o ≡ None → has ns u ≡ true → ⊥) → Some (option_map_or (min n) o n) ≡ Some m → ((n == u) ≡ true) ⊎ (has ns u ≡ true) → m ≤ u
low-by n ns m u None before none e (inl here) = let a : n ≡ m = some-is e in let b : n ≡ u = eqb-true n u here in omega arith
low-by n ns m u None before none e (inr later) = absurd (none refl later)
low-by n ns m u (Some k) before none e (inl here) = let a : min n k ≡ m = some-is e in let b : n ≡ u = eqb-true n u here in omega arith
low-by n ns m u (Some k) before none e (inr later) = let a : min n k ≡ m = some-is e in let b : k ≤ u = before k refl later in omega arith

none-has : (ns : List ℕ) (u : ℕ) → smallest ns ≡ None → has ns u ≡ true → ⊥
none-has [] u e h = true≢false (sym h)
none-has (n ∷ ns) u e h = none-some (smallest (n ∷ ns)) e refl

-- no number in the list is smaller
least-low : (ns : List ℕ) (m u : ℕ) → smallest ns ≡ Some m → has ns u ≡ true → m ≤ u
least-low [] m u e h = absurd (none-some (smallest []) refl e)
least-low (n ∷ ns) m u e h = low-by n ns m u (smallest ns) (λ k is later. least-low ns k u is later) (none-has ns u) e (or_cases (n == u) (has ns u) h)

same-by : (xs ys : List ℕ) → ((u : ℕ) → has xs u ≡ has ys u) → (o p : Option ℕ) → smallest xs ≡ o → smallest ys ≡ p → o ≡ p
same-by xs ys same None None x y = refl
same-by xs ys same (Some m) None x y = absurd (none-has ys m y (sym (same m) ∙ least-in xs m x))
same-by xs ys same None (Some n) x y = absurd (none-has xs n x (same n ∙ least-in ys n y))
same-by xs ys same (Some m) (Some n) x y =
    let a : m ≤ n = least-low xs m n x (same n ∙ least-in ys n y) in
    let b : n ≤ m = least-low ys n m y (sym (same m) ∙ least-in xs m x) in
    let e : m ≡ n = omega arith in
    ap Some e

pub smallest_same : (xs ys : List ℕ) → ((u : ℕ) → has xs u ≡ has ys u) → smallest xs ≡ smallest ys
smallest_same xs ys same = same-by xs ys same (smallest xs) (smallest ys) refl refl

pub smallest_none : (ns : List ℕ) → smallest ns ≡ None → (u : ℕ) → has ns u ≡ false
smallest_none [] e u = refl
smallest_none (n ∷ ns) e u = absurd (none-some (smallest (n ∷ ns)) e refl)

swap-least : (n x : ℕ) (o : Option ℕ) → Some (min n (option_map_or (min x) o x)) ≡ Some (min x (option_map_or (min n) o n))
swap-least n x None = ap Some (omega arith)
swap-least n x (Some k) = ap Some (omega arith)

-- the last one may be taken first
pub least_last : (least : Option ℕ) (ns : List ℕ) (n : ℕ) → least_from least (ns ++ n ∷ []) ≡ least_from (Some (option_map_or (min n) least n)) ns
least_last least [] n = refl
least_last least (x ∷ xs) n = least_last (Some (option_map_or (min x) least x)) xs n ∙ ap (λ o. least_from o xs) (swap-least n x least)
