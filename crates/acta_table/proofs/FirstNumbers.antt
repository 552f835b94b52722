-- A number that was found in a list has an item, which passes the test.
use Rattle.std.proofs.Common.{◌≡◌, ℕ, zero, suc, ◌+◌, ◌-◌, ◌<◌, ◌≤◌, Bool, true, false, cond, min, List, [], ◌∷◌, length, filter, find, slice_get, if◌then◌else◌, Option, Some, None, refl, sym, ap, ◌∙◌, subst, inl, inr, arith}
use Rattle.std.specs.List.{position_from}
use Rattle.std.specs.Option.{option_map_or}
use Rattle.std.proofs.lemmas.Bool.{cases_lt}
use Rattle.std.proofs.lemmas.Option.{slice_get_cases}
use Rattle.acta_table.specs.Numbered.{item_at, first_number, numbers_from, numbers_where, smallest}

pub some-is : {X : Type 0} {x y : X} → Some x ≡ Some y → x ≡ y
some-is e = cc

pub none-some : {X : Type 0} {x : X} → None ≡ Some x → ⊥
none-some e = cc

item-within : {X : Type 0} (xs : List X) (n : ℕ) → 1 ≤ n → n - 1 < length xs → item_at xs n ≡ None → ⊥
item-within xs zero some within none = absurd (omega arith)
item-within xs (suc k) some within none =
    elim (slice_get_cases xs k).1 [
      | inl there ↦ let (x, less, is, same) = there in none-some (sym none ∙ is)
      | inr past ↦ let (long, is) = past in absurd (omega arith)
    ]

there-by : (a : Bool) (k n long : ℕ) (o : Option ℕ) → (o ≡ Some n → (k + 1 ≤ n) × (n - (k + 1) < long)) → cond a (Some k) o ≡ Some n → (k ≤ n) × (n - k < suc long)
there-by true k n long o later e = let same : k ≡ n = some-is e in (omega arith, omega arith)
there-by false k n long o later e = let (low, high) = later e in (omega arith, omega arith)

there-from : {X : Type 0} (test : X → Bool) (k n : ℕ) (xs : List X) → position_from test k xs ≡ Some n → (k ≤ n) × (n - k < length xs)
there-from test k n [] e = absurd (none-some e)
there-from test k n (x ∷ xs) e = there-by (test x) k n (length xs) (position_from test (k + 1) xs) (there-from test (k + 1) n xs) e

-- the first item that passes exists
pub first-there : {X : Type 0} (test : X → Bool) (xs : List X) (n : ℕ) → first_number test xs ≡ Some n → item_at xs n ≡ None → ⊥
first-there test xs n e = let (some, within) = there-from test 1 n xs e in item-within xs n some within

listed-by : (p : ℕ → Bool) (a : Bool) (k n long : ℕ) (ns : List ℕ) → (find p ns ≡ Some n → (k + 1 ≤ n) × (n - (k + 1) < long)) → find p (if a then k ∷ ns else ns) ≡ Some n → (k ≤ n) × (n - k < suc long)
listed-by p true k n long ns later e = head (p k) e
  where
    head : (c : Bool) → cond c (Some k) (find p ns) ≡ Some n → (k ≤ n) × (n - k < suc long)
    head true e = let same : k ≡ n = some-is e in (omega arith, omega arith)
    head false e = let (low, high) = later e in (omega arith, omega arith)
listed-by p false k n long ns later e = let (low, high) = later e in (omega arith, omega arith)

listed-from : {X : Type 0} (p : ℕ → Bool) (test : X → Bool) (k n : ℕ) (xs : List X) → find p (numbers_from test k xs) ≡ Some n → (k ≤ n) × (n - k < length xs)
listed-from p test k n [] e = absurd (none-some e)
listed-from p test k n (x ∷ xs) e = listed-by p (test x) k n (length xs) (numbers_from test (k + 1) xs) (listed-from p test (k + 1) n xs) e

-- a number found among the numbers of the passing items has an item
pub found-there : {X : Type 0} (p : ℕ → Bool) (test : X → Bool) (xs : List X) (n : ℕ) → find p (numbers_where test xs) ≡ Some n → item_at xs n ≡ None → ⊥
found-there p test xs n e = let (some, within) = listed-from p test 1 n xs e in item-within xs n some within

passes-by : (p : ℕ → Bool) (n m : ℕ) (o : Option ℕ) → ((k : ℕ) → o ≡ Some k → p k ≡ true) → p n ≡ true → Some (option_map_or (min n) o n) ≡ Some m → p m ≡ true
passes-by p n m None least here e = subst (λ k. p k ≡ true) (some-is e) here
passes-by p n m (Some k) least here e =
    let which : min n k ≡ m = some-is e in
    elim (cases_lt n k) [
      | inl less ↦ let same : n ≡ m = omega arith in subst (λ j. p j ≡ true) same here
      | inr more ↦ let same : k ≡ m = omega arith in subst (λ j. p j ≡ true) same (least k refl)
    ]

passes-if : (p : ℕ → Bool) (n m : ℕ) (rest : List ℕ) → ((k : ℕ) → smallest rest ≡ Some k → p k ≡ true) → (b : Bool) → p n ≡ b → smallest (if b then n ∷ rest else rest) ≡ Some m → p m ≡ true
passes-if p n m rest later true here e = passes-by p n m (smallest rest) later here e
passes-if p n m rest later false here e = later m e

-- the smallest of the numbers that pass the test passes it
pub smallest-passes : (p : ℕ → Bool) (ns : List ℕ) (m : ℕ) → smallest (filter p ns) ≡ Some m → p m ≡ true
smallest-passes p [] m e = absurd (none-some e)
smallest-passes p (n ∷ ns) m e = passes-if p n m (filter p ns) (smallest-passes p ns) (p n) refl e
