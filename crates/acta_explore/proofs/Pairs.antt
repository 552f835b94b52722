-- Lists in which each element is related to all later ones.
use Rattle.std.proofs.Common.{◌<◌, ℕ, zero, suc, List, [], ◌∷◌, ◌++◌, length, get_or, arith}
use Rattle.std.specs.List.{AllByRecursion}
pub use Rattle.acta_explore.specs.inside.Numbered.{Pairs}

module _ {X : Type 0} where
  pub all-append : (P : X → Type 0) (xs ys : List X) → AllByRecursion P xs → AllByRecursion P ys → AllByRecursion P (xs ++ ys)
  all-append P [] ys here there = there
  all-append P (x ∷ xs) ys here there = (here.0, all-append P xs ys here.1 there)

  pub all-left : (P : X → Type 0) (xs ys : List X) → AllByRecursion P (xs ++ ys) → AllByRecursion P xs
  all-left P [] ys all = tt
  all-left P (x ∷ xs) ys all = (all.0, all-left P xs ys all.1)

  pub all-right : (P : X → Type 0) (xs ys : List X) → AllByRecursion P (xs ++ ys) → AllByRecursion P ys
  all-right P [] ys all = all
  all-right P (x ∷ xs) ys all = all-right P xs ys all.1

  pub all-map : (P Q : X → Type 0) → ((x : X) → P x → Q x) → (xs : List X) → AllByRecursion P xs → AllByRecursion Q xs
  all-map P Q f [] all = tt
  all-map P Q f (x ∷ xs) all = (f x all.0, all-map P Q f xs all.1)

  pub all-at : (P : X → Type 0) (xs : List X) (i : ℕ) (d : X) → i < length xs → AllByRecursion P xs → P (get_or xs i d)
  all-at P [] i d l all = absurd (omega arith)
  all-at P (x ∷ xs) zero d l all = all.0
  all-at P (x ∷ xs) (suc i) d l all = all-at P xs i d (omega arith) all.1

  pub all-from : (P : X → Type 0) (xs : List X) → ((i : ℕ) (d : X) → i < length xs → P (get_or xs i d)) → AllByRecursion P xs
  all-from P [] h = tt
  all-from P (x ∷ xs) h = (h 0 x (omega arith), all-from P xs (λ i d less. h (suc i) d (omega arith)))

  pub pairs-append : (B : X → X → Type 0) (xs ys : List X) → Pairs B xs → Pairs B ys → AllByRecursion (λ x. AllByRecursion (B x) ys) xs → Pairs B (xs ++ ys)
  pairs-append B [] ys here there across = there
  pairs-append B (x ∷ xs) ys here there across =
      (all-append (B x) xs ys here.0 across.0, pairs-append B xs ys here.1 there across.1)

  pub pairs-push : (B : X → X → Type 0) (xs : List X) (y : X) → Pairs B xs → AllByRecursion (λ x. B x y) xs → Pairs B (xs ++ y ∷ [])
  pairs-push B xs y here across = pairs-append B xs (y ∷ []) here (tt, tt) (all-map (λ x. B x y) (λ x. AllByRecursion (B x) (y ∷ [])) (λ x b. (b, tt)) xs across)

  -- of an element in the middle
  pub pairs-before : (B : X → X → Type 0) (xs : List X) (p : X) (ps : List X) → Pairs B (xs ++ p ∷ ps) → AllByRecursion (λ x. B x p) xs
  pairs-before B [] p ps pairs = tt
  pairs-before B (x ∷ xs) p ps pairs = ((all-right (B x) xs (p ∷ ps) pairs.0).0, pairs-before B xs p ps pairs.1)

  pub pairs-without : (B : X → X → Type 0) (xs : List X) (p : X) (ps : List X) → Pairs B (xs ++ p ∷ ps) → Pairs B (xs ++ ps)
  pairs-without B [] p ps pairs = pairs.1
  pairs-without B (x ∷ xs) p ps pairs =
      (all-append (B x) xs ps (all-left (B x) xs (p ∷ ps) pairs.0) (all-right (B x) xs (p ∷ ps) pairs.0).1, pairs-without B xs p ps pairs.1)

  pub pairs-at : (B : X → X → Type 0) (xs : List X) (i j : ℕ) (d : X) → i < j → j < length xs → Pairs B xs → B (get_or xs i d) (get_or xs j d)
  pairs-at B [] i j d l within pairs = absurd (omega arith)
  pairs-at B (x ∷ xs) i zero d l within pairs = absurd (omega arith)
  pairs-at B (x ∷ xs) zero (suc j) d l within pairs = all-at (B x) xs j d (omega arith) pairs.0
  pairs-at B (x ∷ xs) (suc i) (suc j) d l within pairs = pairs-at B xs i j d (omega arith) (omega arith) pairs.1

  pub pairs-left : (B : X → X → Type 0) (xs ys : List X) → Pairs B (xs ++ ys) → Pairs B xs
  pairs-left B [] ys pairs = tt
  pairs-left B (x ∷ xs) ys pairs = (all-left (B x) xs ys pairs.0, pairs-left B xs ys pairs.1)

  pub pairs-from : (B : X → X → Type 0) (xs : List X) → ((i j : ℕ) (d : X) → i < j → j < length xs → B (get_or xs i d) (get_or xs j d)) → Pairs B xs
  pairs-from B [] h = tt
  pairs-from B (x ∷ xs) h =
      (all-from (B x) xs (λ j d less. h 0 (suc j) d (omega arith) (omega arith)), pairs-from B xs (λ i j d less within. h (suc i) (suc j) d (omega arith) (omega arith)))
