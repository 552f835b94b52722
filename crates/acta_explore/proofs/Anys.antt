-- Whether some element of a list passes a test.
use Rattle.std.proofs.Common.{◌≡◌, ℕ, ◌+◌, Bool, true, false, ◌&&◌, ◌||◌, not, List, [], ◌∷◌, ◌++◌, map, filter, is_none, refl, ap, ◌∙◌}
use Rattle.std.specs.List.{list_any, position_from}
use Rattle.std.specs.Prelude.{find}
use Rattle.acta_table.specs.Numbered.{first_number, smallest, numbers_from}

or-three : (a b c : Bool) → (a || (b || c)) ≡ ((a || b) || c)
or-three true b c = refl
or-three false b c = refl

or-swap : (a b c d : Bool) → ((a || b) || (c || d)) ≡ ((a || c) || (b || d))
or-swap true b c d = refl
or-swap false true true d = refl
or-swap false true false d = refl
or-swap false false c d = refl

module _ {X : Type 0} where
  any-step : (test : X → Bool) (x : X) (n : ℕ) (xs : List X) → is_none (position_from test (n + 1) xs) ≡ not (list_any test xs) → (b : Bool) → test x ≡ b → is_none (position_from test n (x ∷ xs)) ≡ not (list_any test (x ∷ xs))
  any-step test x n xs ih true e = rw e
  any-step test x n xs ih false e = rw e ih

  -- a place is found if some element passes
  pub position-any : (test : X → Bool) (n : ℕ) (xs : List X) → is_none (position_from test n xs) ≡ not (list_any test xs)
  position-any test n [] = refl
  position-any test n (x ∷ xs) = any-step test x n xs (position-any test (n + 1) xs) (test x) refl

  pub number-any : (test : X → Bool) (xs : List X) → is_none (first_number test xs) ≡ not (list_any test xs)
  number-any test xs = position-any test 1 xs

  -- of an image
  pub any-map : {Y : Type 0} (f : Y → X) (test : X → Bool) (ys : List Y) → list_any test (map f ys) ≡ list_any (λ y. test (f y)) ys
  any-map f test [] = refl
  any-map f test (y ∷ ys) = ap (λ (b : Bool). test (f y) || b) (any-map f test ys)

  pub any-append : (test : X → Bool) (xs ys : List X) → list_any test (xs ++ ys) ≡ (list_any test xs || list_any test ys)
  any-append test [] ys = refl
  any-append test (x ∷ xs) ys = ap (λ (b : Bool). test x || b) (any-append test xs ys) ∙ or-three (test x) (list_any test xs) (list_any test ys)

-- the smallest of those that pass, if there is one
least-step : (test : ℕ → Bool) (n : ℕ) (ns : List ℕ) → is_none (smallest (filter test ns)) ≡ not (list_any test ns) → (b : Bool) → test n ≡ b → is_none (smallest (filter test (n ∷ ns))) ≡ not (list_any test (n ∷ ns))
least-step test n ns ih true e = rw e
least-step test n ns ih false e = rw e ih

pub least-any : (test : ℕ → Bool) (ns : List ℕ) → is_none (smallest (filter test ns)) ≡ not (list_any test ns)
least-any test [] = refl
least-any test (n ∷ ns) = least-step test n ns (least-any test ns) (test n) refl

module _ {X : Type 0} where
  -- whether some element passes with its number, where the first has the number n
  abbrev pub any_from : ℕ → (ℕ → X → Bool) → List X → Bool
  any_from n f [] = false
  any_from n f (x ∷ xs) = f n x || any_from (n + 1) f xs

  pub any_from-or : (n : ℕ) (f g : ℕ → X → Bool) (xs : List X) → any_from n (λ k x. f k x || g k x) xs ≡ (any_from n f xs || any_from n g xs)
  any_from-or n f g [] = refl
  any_from-or n f g (x ∷ xs) = ap (λ (b : Bool). (f n x || g n x) || b) (any_from-or (n + 1) f g xs) ∙ or-swap (f n x) (g n x) (any_from (n + 1) f xs) (any_from (n + 1) g xs)

  pub any_from-same : (n : ℕ) (f g : ℕ → X → Bool) → ((k : ℕ) (x : X) → f k x ≡ g k x) → (xs : List X) → any_from n f xs ≡ any_from n g xs
  any_from-same n f g e [] = refl
  any_from-same n f g e (x ∷ xs) = λ i. e n x i || any_from-same (n + 1) f g e xs i

  pub any_from-none : (n : ℕ) (xs : List X) → any_from n (λ k x. false) xs ≡ false
  any_from-none n [] = refl
  any_from-none n (x ∷ xs) = any_from-none (n + 1) xs

  find-step : (p : ℕ → Bool) (test : X → Bool) (x : X) (n : ℕ) (xs : List X) → is_none (find p (numbers_from test (n + 1) xs)) ≡ not (any_from (n + 1) (λ k y. test y && p k) xs) → (b c : Bool) → test x ≡ b → p n ≡ c → is_none (find p (numbers_from test n (x ∷ xs))) ≡ not (any_from n (λ k y. test y && p k) (x ∷ xs))
  find-step p test x n xs ih true true e h = rw (e, h)
  find-step p test x n xs ih true false e h = rw (e, h) ih
  find-step p test x n xs ih false c e h = rw e ih

  -- a number that passes is found among those of the elements that pass
  pub find-any : (p : ℕ → Bool) (test : X → Bool) (n : ℕ) (xs : List X) → is_none (find p (numbers_from test n xs)) ≡ not (any_from n (λ k x. test x && p k) xs)
  find-any p test n [] = refl
  find-any p test n (x ∷ xs) = find-step p test x n xs (find-any p test (n + 1) xs) (test x) (p n) refl refl
