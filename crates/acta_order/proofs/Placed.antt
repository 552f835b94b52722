-- Orders without repeats, and the transactions that a stack of positions places.
use Rattle.std.proofs.Common.{◌≡◌, ℕ, zero, suc, ◌<◌, ◌==◌, Bool, true, false, ◌||◌, List, [], ◌∷◌, ◌++◌, length, reverse, map, refl, sym, ap, ◌∙◌, subst, arith}
use Rattle.std.proofs.lemmas.Bool.{true≢false, or_parts, or_from, or_left, or_right, eqb-true, eq-eqb}
use Rattle.std.proofs.lemmas.List.Folds.{list_any-append}
use Rattle.std.proofs.lemmas.List.{reverse-append, map-append}
use Rattle.acta_axioms.proofs.ValueGrowth.{eqb-turned}
use Rattle.acta_order.specs.Orders.{is_in, AreDistinct}
use Rattle.acta_order.specs.Search.{at, placed}

pub is_in-append : (xs ys : List ℕ) (t : ℕ) → is_in (xs ++ ys) t ≡ (is_in xs t || is_in ys t)
is_in-append xs ys t = list_any-append (λ u. u == t) xs ys

or_none : (b : Bool) → (b || false) ≡ b
or_none true = refl
or_none false = refl

pub one-in : (u t : ℕ) → is_in (u ∷ []) t ≡ (u == t)
one-in u t = or_none (u == t)

pub same_bool : (a b : Bool) → (a ≡ true → b ≡ true) → (b ≡ true → a ≡ true) → a ≡ b
same_bool true b f g = sym (f refl)
same_bool false true f g = g refl
same_bool false false f g = refl

-- an item after others in a list without repeats is none of them
pub distinct-split : (xs : List ℕ) (t : ℕ) (ys : List ℕ) → AreDistinct (xs ++ t ∷ ys) → is_in xs t ≡ false
distinct-split [] t ys d = refl
distinct-split (x ∷ xs) t ys d =
    let far = or_parts (is_in xs x) (is_in (t ∷ ys) x) (sym (is_in-append xs (t ∷ ys) x) ∙ d.0) in
    let apart = or_parts (t == x) (is_in ys x) far.1 in
    or_from (x == t) (is_in xs t) (eqb-turned x t ∙ apart.0) (distinct-split xs t ys d.1)

pub distinct-push : (xs : List ℕ) (t : ℕ) → AreDistinct xs → is_in xs t ≡ false → AreDistinct (xs ++ t ∷ [])
distinct-push [] t d out = (refl, tt)
distinct-push (x ∷ xs) t d out =
    let apart = or_parts (x == t) (is_in xs t) out in
    (is_in-append xs (t ∷ []) x ∙ or_from (is_in xs x) (is_in (t ∷ []) x) d.0 (one-in t x ∙ eqb-turned t x ∙ apart.0), distinct-push xs t d.1 apart.1)

-- turned round
or-turned : (a b : Bool) → (a || b) ≡ (b || a)
or-turned true true = refl
or-turned true false = refl
or-turned false true = refl
or-turned false false = refl

pub is_in-reverse : (xs : List ℕ) (t : ℕ) → is_in (reverse xs) t ≡ is_in xs t
is_in-reverse [] t = refl
is_in-reverse (x ∷ xs) t =
    ap (λ (ys : List ℕ). is_in ys t) (reverse-append (x ∷ []) xs) ∙ is_in-append (reverse xs) (x ∷ []) t
    ∙ (λ i. is_in-reverse xs t i || one-in x t i) ∙ or-turned (is_in xs t) (x == t)

pub distinct-reverse : (xs : List ℕ) → AreDistinct xs → AreDistinct (reverse xs)
distinct-reverse [] d = tt
distinct-reverse (x ∷ xs) d =
    subst AreDistinct (sym (reverse-append (x ∷ []) xs)) (distinct-push (reverse xs) x (distinct-reverse xs d.1) (is_in-reverse xs x ∙ d.0))

-- positions

pub apart-at : (ts : List ℕ) (t j : ℕ) → is_in ts t ≡ false → j < length ts → (at ts j == t) ≡ false
apart-at [] t j out within = absurd (omega arith)
apart-at (u ∷ ts) t zero out within = (or_parts (u == t) (is_in ts t) out).0
apart-at (u ∷ ts) t (suc j) out within = apart-at ts t j (or_parts (u == t) (is_in ts t) out).1 (omega arith)

pub at-in : (ts : List ℕ) (j : ℕ) → j < length ts → is_in ts (at ts j) ≡ true
at-in [] j within = absurd (omega arith)
at-in (u ∷ ts) zero within = or_left (u == u) (is_in ts u) (eq-eqb u u refl)
at-in (u ∷ ts) (suc j) within = or_right (u == at ts j) (is_in ts (at ts j)) (at-in ts j (omega arith))

pub at-other : (ts : List ℕ) (i j : ℕ) → AreDistinct ts → i < length ts → j < length ts → (i ≡ j → ⊥) → (at ts i == at ts j) ≡ false
at-other [] i j d wi wj ne = absurd (omega arith)
at-other (t ∷ ts) zero zero d wi wj ne = absurd (ne refl)
at-other (t ∷ ts) zero (suc j) d wi wj ne = eqb-turned t (at ts j) ∙ apart-at ts t j d.0 (omega arith)
at-other (t ∷ ts) (suc i) zero d wi wj ne = apart-at ts t i d.0 (omega arith)
at-other (t ∷ ts) (suc i) (suc j) d wi wj ne = at-other ts i j d.1 (omega arith) (omega arith) (λ e. ne (ap suc e))

pub record IsAt (ts : List ℕ) (t : ℕ) : Type 0 where
  pub pos : ℕ
  pub within : pos < length ts
  pub is : at ts pos ≡ t

pub find-at : (ts : List ℕ) (t : ℕ) → is_in ts t ≡ true → IsAt ts t
find-at [] t is = absurd (true≢false (sym is))
find-at (u ∷ ts) t is = of (λ any. find-at ts t any) (u == t) refl is
  where
    of : (is_in ts t ≡ true → IsAt ts t) → (b : Bool) → (u == t) ≡ b → (b || is_in ts t) ≡ true → IsAt (u ∷ ts) t
    of later true e any = record { pos = zero; within = omega arith; is = eqb-true u t e }
    of later false e any = let f = later any in record { pos = suc f.pos; within = let w = f.within in omega (arith, w); is = f.is }

-- each position on the stack is one of the list
abbrev pub AreWithin : List ℕ → ℕ → Type 0
AreWithin stack n = (j : ℕ) → is_in stack j ≡ true → j < n

pub within-top : (c : ℕ) (below : List ℕ) (n : ℕ) → AreWithin (c ∷ below) n → c < n
within-top c below n w = w c (or_left (c == c) (is_in below c) (eq-eqb c c refl))

pub within-below : (c : ℕ) (below : List ℕ) (n : ℕ) → AreWithin (c ∷ below) n → AreWithin below n
within-below c below n w = λ j is. w j (or_right (c == j) (is_in below j) is)

pub not-placed : (ts stack : List ℕ) (j : ℕ) → AreDistinct ts → AreWithin stack (length ts) → j < length ts → is_in stack j ≡ false → is_in (placed ts stack) (at ts j) ≡ false
not-placed ts [] j d w here out = refl
not-placed ts (c ∷ below) j d w here out =
    let apart = or_parts (c == j) (is_in below j) out in
    is_in-append (placed ts below) (at ts c ∷ []) (at ts j)
    ∙ or_from (is_in (placed ts below) (at ts j)) (is_in (at ts c ∷ []) (at ts j))
    (not-placed ts below j d (within-below c below (length ts) w) here apart.1)
    (one-in (at ts c) (at ts j) ∙ at-other ts c j d (within-top c below (length ts) w) here (λ e. true≢false (sym (eq-eqb c j e) ∙ apart.0)))

pub is-placed : (ts stack : List ℕ) (j : ℕ) → is_in stack j ≡ true → is_in (placed ts stack) (at ts j) ≡ true
is-placed ts [] j is = absurd (true≢false (sym is))
is-placed ts (c ∷ below) j is = is_in-append (placed ts below) (at ts c ∷ []) (at ts j) ∙ of (λ any. is-placed ts below j any) (c == j) refl is
  where
    of : (is_in below j ≡ true → is_in (placed ts below) (at ts j) ≡ true) → (b : Bool) → (c == j) ≡ b → (b || is_in below j) ≡ true → (is_in (placed ts below) (at ts j) || is_in (at ts c ∷ []) (at ts j)) ≡ true
    of later true e any = or_right (is_in (placed ts below) (at ts j)) (is_in (at ts c ∷ []) (at ts j)) (one-in (at ts c) (at ts j) ∙ eq-eqb (at ts c) (at ts j) (ap (at ts) (eqb-true c j e)))
    of later false e any = or_left (is_in (placed ts below) (at ts j)) (is_in (at ts c ∷ []) (at ts j)) (later any)

pub placed-of : (ts stack : List ℕ) (t : ℕ) → AreWithin stack (length ts) → is_in (placed ts stack) t ≡ true → is_in ts t ≡ true
placed-of ts [] t w is = absurd (true≢false (sym is))
placed-of ts (c ∷ below) t w is = of (λ e. placed-of ts below t (within-below c below (length ts) w) e) (is_in (placed ts below) t) refl (sym (is_in-append (placed ts below) (at ts c ∷ []) t) ∙ is)
  where
    of : (is_in (placed ts below) t ≡ true → is_in ts t ≡ true) → (b : Bool) → is_in (placed ts below) t ≡ b → (b || is_in (at ts c ∷ []) t) ≡ true → is_in ts t ≡ true
    of later true e any = later e
    of later false e any = subst (λ u. is_in ts u ≡ true) (eqb-true (at ts c) t (sym (one-in (at ts c) t) ∙ any)) (at-in ts c (within-top c below (length ts) w))

pub distinct-placed : (ts stack : List ℕ) → AreDistinct ts → AreWithin stack (length ts) → AreDistinct stack → AreDistinct (placed ts stack)
distinct-placed ts [] d w s = tt
distinct-placed ts (c ∷ below) d w s =
    distinct-push (placed ts below) (at ts c) (distinct-placed ts below d (within-below c below (length ts) w) s.1)
    (not-placed ts below c d (within-below c below (length ts) w) (within-top c below (length ts) w) s.0)

-- the placed transactions, in order
pub placed-map : (ts stack : List ℕ) → placed ts stack ≡ map (at ts) (reverse stack)
placed-map ts [] = refl
placed-map ts (c ∷ below) =
    ap (λ (xs : List ℕ). xs ++ at ts c ∷ []) (placed-map ts below)
    ∙ sym (ap (map (at ts)) (reverse-append (c ∷ []) below) ∙ map-append (at ts) (reverse below) (c ∷ []))

-- a position that places this transaction
pub record IsPlacedBy (ts stack : List ℕ) (t : ℕ) : Type 0 where
  pub pos : ℕ
  pub there : is_in stack pos ≡ true
  pub is : at ts pos ≡ t

pub placed-find : (ts stack : List ℕ) (t : ℕ) → is_in (placed ts stack) t ≡ true → IsPlacedBy ts stack t
placed-find ts [] t is = absurd (true≢false (sym is))
placed-find ts (c ∷ below) t is = of (λ e. placed-find ts below t e) (is_in (placed ts below) t) refl (sym (is_in-append (placed ts below) (at ts c ∷ []) t) ∙ is)
  where
    of : (is_in (placed ts below) t ≡ true → IsPlacedBy ts below t) → (b : Bool) → is_in (placed ts below) t ≡ b → (b || is_in (at ts c ∷ []) t) ≡ true → IsPlacedBy ts (c ∷ below) t
    of later true e any = let f = later e in record { pos = f.pos; there = or_right (c == f.pos) (is_in below f.pos) f.there; is = f.is }
    of later false e any = record { pos = c; there = or_left (c == c) (is_in below c) (eq-eqb c c refl); is = eqb-true (at ts c) t (sym (one-in (at ts c) t) ∙ any) }

-- stacks of the same positions place the same transactions
pub placed-same : (ts s z : List ℕ) → ((j : ℕ) → is_in s j ≡ is_in z j) → (t : ℕ) → is_in (placed ts s) t ≡ is_in (placed ts z) t
placed-same ts s z same t =
    same_bool (is_in (placed ts s) t) (is_in (placed ts z) t)
    (λ is. let f = placed-find ts s t is in subst (λ u. is_in (placed ts z) u ≡ true) f.is (is-placed ts z f.pos (sym (same f.pos) ∙ f.there)))
    (λ is. let f = placed-find ts z t is in subst (λ u. is_in (placed ts s) u ≡ true) f.is (is-placed ts s f.pos (same f.pos ∙ f.there)))
