-- Looking up the name of a class or an object gives it back, since names are unique.
use Rattle.std.proofs.Common.{◌≡◌, ◌<◌, ◌+◌, ℕ, zero, suc, Bool, true, false, ◌&&◌, cond, ◌==◌, List, [], ◌∷◌, map, length, slice_get, Some, refl, ap, ◌∙◌, arith}
use Rattle.std.specs.List.{list_any, list_all, position_from}
use Rattle.std.specs.Option.{option_map_or}
use Rattle.std.specs.Str.{bytes_eq}
use Rattle.std.proofs.lemmas.Bool.{and_parts, or_parts}
use Rattle.std.proofs.lemmas.Bool.Decides.{nat_tests}
use Rattle.acta_table.specs.Faults.{has_twice}

eq-sym : (m n : ℕ) → (m == n) ≡ (n == m)
eq-sym m n = grind (arith, nat_tests)

eq-same : (n : ℕ) → (n == n) ≡ true
eq-same n = grind (arith, nat_tests)

bytes_eq-sym : (a b : List ℕ) → bytes_eq a b ≡ bytes_eq b a
bytes_eq-sym [] [] = refl
bytes_eq-sym [] (y ∷ ys) = refl
bytes_eq-sym (x ∷ xs) [] = refl
bytes_eq-sym (x ∷ xs) (y ∷ ys) = λ i. eq-sym x y i && bytes_eq-sym xs ys i

bytes_eq-same : (a : List ℕ) → bytes_eq a a ≡ true
bytes_eq-same [] = refl
bytes_eq-same (x ∷ xs) = λ i. eq-same x i && bytes_eq-same xs i

module _ {X : Type 0} (f : X → List ℕ) where
  -- the name of the one at this place
  abbrev pub name_at : List X → ℕ → List ℕ
  name_at xs i = option_map_or f (slice_get xs i) []

  other-name : (word : List ℕ) (xs : List X) (i : ℕ) → list_any (bytes_eq word) (map f xs) ≡ false → i < length xs → bytes_eq (name_at xs i) word ≡ false
  other-name word [] i none within = absurd (omega arith)
  other-name word (x ∷ xs) zero none within = bytes_eq-sym (f x) word ∙ (or_parts (bytes_eq word (f x)) (list_any (bytes_eq word) (map f xs)) none).0
  other-name word (x ∷ xs) (suc i) none within = other-name word xs i (or_parts (bytes_eq word (f x)) (list_any (bytes_eq word) (map f xs)) none).1 (omega arith)

  place-from : (n : ℕ) (xs : List X) (i : ℕ) → has_twice (map f xs) ≡ false → i < length xs → position_from (λ x. bytes_eq (name_at xs i) (f x)) n xs ≡ Some (n + i)
  place-from n [] i once within = absurd (omega arith)
  place-from n (x ∷ xs) zero once within =
      let here : n ≡ n + 0 = omega arith in
      ap (λ (b : Bool). cond b (Some n) (position_from (λ y. bytes_eq (f x) (f y)) (n + 1) xs)) (bytes_eq-same (f x)) ∙ ap Some here
  place-from n (x ∷ xs) (suc i) once within =
      let parts = or_parts (list_any (bytes_eq (f x)) (map f xs)) (has_twice (map f xs)) once in
      let there : (n + 1) + i ≡ n + suc i = omega arith in
      ap (λ (b : Bool). cond b (Some n) (position_from (λ y. bytes_eq (name_at xs i) (f y)) (n + 1) xs)) (other-name (f x) xs i parts.0 (omega arith))
      ∙ place-from (n + 1) xs i parts.1 (omega arith) ∙ ap Some there

  -- it is found by its name
  pub place : (xs : List X) (i : ℕ) → has_twice (map f xs) ≡ false → i < length xs → position_from (λ x. bytes_eq (name_at xs i) (f x)) 0 xs ≡ Some i
  place xs i once within = let same : 0 + i ≡ i = omega arith in place-from 0 xs i once within ∙ ap Some same

  -- a property of all names is a property of its name
  pub at-name : (test : List ℕ → Bool) (xs : List X) (i : ℕ) → list_all test (map f xs) ≡ true → i < length xs → test (name_at xs i) ≡ true
  at-name test [] i all within = absurd (omega arith)
  at-name test (x ∷ xs) zero all within = (and_parts (test (f x)) (list_all test (map f xs)) all).0
  at-name test (x ∷ xs) (suc i) all within = at-name test xs i (and_parts (test (f x)) (list_all test (map f xs)) all).1 (omega arith)
