-- The first item for each number, as items are added and taken away.
use Rattle.std.proofs.Common.{◌≡◌, ◌<◌, ℕ, suc, ◌+◌, Bool, true, false, ◌&&◌, ◌==◌, List, [], ◌∷◌, ◌++◌, length, get_or, Option, Some, None, refl, sym, ap, ◌∙◌, cond, arith}
use Rattle.std.specs.Prelude.{IfSome, if◌then◌else◌, is_none, nat_lt, not, option_map}
use Rattle.std.specs.List.{position, position_or_len}
use Rattle.std.specs.Option.{option_or}
use Rattle.std.proofs.lemmas.Bool.{eq-eqb, ne_eqb, le-ltb, lt-ltb, ltb-false, ltb-true}
use Rattle.std.proofs.lemmas.List.Quantifiers.{position-Some}
use Rattle.acta_trace.specs.inside.Firsts.{AreFirsts, forgotten, is_at, noted}

-- the place of a later item, or none, where an item comes before the others
one-further : (k n m : ℕ) (c : Bool) → m ≡ suc n → nat_lt k n ≡ c → cond (nat_lt (1 + k) m) (Some (1 + k)) None ≡ option_map suc (cond c (Some k) None)
one-further k n m true long is = ap (λ (b : Bool). cond b (Some (1 + k)) None) (lt-ltb (1 + k) m (omega (arith, long, ltb-true k n is))) ∙ ap Some (omega arith)
one-further k n m false long is = ap (λ (b : Bool). cond b (Some (1 + k)) None) (le-ltb (1 + k) m (omega (arith, long, ltb-false k n is)))

first-or-later : {X : Type 0} (p : X → Bool) (y : X) (ys : List X) (b : Bool) → p y ≡ b
    → position p (y ∷ ys) ≡ cond b (Some 0) (option_map suc (position p ys))
first-or-later p y ys true is =
    (λ i. cond (nat_lt (cond (not (is i)) (1 + position_or_len p ys) 0) (length (y ∷ ys))) (Some (cond (not (is i)) (1 + position_or_len p ys) 0)) None)
    ∙ ap (λ (b : Bool). cond b (Some 0) None) (lt-ltb 0 (length (y ∷ ys)) (omega arith))
first-or-later p y ys false is =
    (λ i. cond (nat_lt (cond (not (is i)) (1 + position_or_len p ys) 0) (length (y ∷ ys))) (Some (cond (not (is i)) (1 + position_or_len p ys) 0)) None)
    ∙ one-further (position_or_len p ys) (length ys) (length (y ∷ ys)) (nat_lt (position_or_len p ys) (length ys)) refl refl

position-cons : {X : Type 0} (p : X → Bool) (y : X) (ys : List X) → position p (y ∷ ys) ≡ cond (p y) (Some 0) (option_map suc (position p ys))
position-cons p y ys = first-or-later p y ys (p y) refl

one-later : (b c : Bool) (n : ℕ) (o : Option ℕ) → cond b (Some 0) (option_map suc (option_or o (cond c (Some n) None))) ≡ option_or (cond b (Some 0) (option_map suc o)) (cond c (Some (suc n)) None)
one-later true c n o = refl
one-later false true n None = refl
one-later false false n None = refl
one-later false c n (Some i) = refl

position-append : {X : Type 0} (p : X → Bool) (xs : List X) (x : X) → position p (xs ++ x ∷ []) ≡ option_or (position p xs) (cond (p x) (Some (length xs)) None)
position-append p [] x = position-cons p x []
position-append p (y ∷ ys) x =
    position-cons p y (ys ++ x ∷ [])
    ∙ ap (λ (o : Option ℕ). cond (p y) (Some 0) (option_map suc o)) (position-append p ys x)
    ∙ one-later (p y) (p x) (length ys) (position p ys)
    ∙ ap (λ (o : Option ℕ). option_or o (cond (p x) (Some (suc (length ys))) None)) (sym (position-cons p y ys))

noted-one : (b : Bool) (o : Option ℕ) (n : ℕ) → (if b && is_none o then Some n else o) ≡ option_or o (cond b (Some n) None)
noted-one true None n = refl
noted-one false None n = refl
noted-one true (Some i) n = refl
noted-one false (Some i) n = refl

-- the places stay right where the item that is added is noted for the numbers that it has
pub firsts-noted : {X : Type 0} (has : ℕ → X → Bool) (xs : List X) (x : X) (old new : List (Option ℕ)) (place : ℕ) → length xs ≡ place → AreFirsts has xs old → ((n : ℕ) → get_or new n None ≡ noted (λ m. has m x) old place n) → AreFirsts has (xs ++ x ∷ []) new
firsts-noted has xs x old new place at first same n =
    same n
    ∙ (λ i. if has n x && is_none (first n i) then Some (sym at i) else first n i)
    ∙ noted-one (has n x) (position (has n) xs) (length xs)
    ∙ sym (position-append (has n) xs x)

forgotten-one : (b : Bool) (o : Option ℕ) (n : ℕ) → IfSome o (λ i. i < n) → (if b && is_at n (option_or o (cond b (Some n) None)) then None else option_or o (cond b (Some n) None)) ≡ o
forgotten-one true None n before = rw (eq-eqb n n refl)
forgotten-one false None n before = refl
forgotten-one true (Some i) n before = rw (ne_eqb i n (λ is. omega (arith, is)))
forgotten-one false (Some i) n before = refl

within : {X : Type 0} (p : X → Bool) (xs : List X) (x : X) (o : Option ℕ) → position p xs ≡ o → IfSome o (λ i. i < length xs)
within p xs x None is = tt
within p xs x (Some i) is = (position-Some p xs i x is).0

-- the places stay right where the last item is taken away, and forgotten for the numbers that it has
pub firsts-forgotten : {X : Type 0} (has : ℕ → X → Bool) (xs : List X) (x : X) (old new : List (Option ℕ)) (place : ℕ) → length xs ≡ place → AreFirsts has (xs ++ x ∷ []) old → ((n : ℕ) → get_or new n None ≡ forgotten (λ m. has m x) old place n) → AreFirsts has xs new
firsts-forgotten has xs x old new place at first same n =
    let found : get_or old n None ≡ option_or (position (has n) xs) (cond (has n x) (Some (length xs)) None) = first n ∙ position-append (has n) xs x in
    same n
    ∙ (λ i. if has n x && is_at (sym at i) (found i) then None else found i)
    ∙ forgotten-one (has n x) (position (has n) xs) (length xs) (within (has n) xs x (position (has n) xs) refl)
