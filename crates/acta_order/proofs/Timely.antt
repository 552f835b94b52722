-- Orders in which no transaction is placed before one that has to precede it.
use Rattle.std.proofs.Common.{◌≡◌, ℕ, zero, suc, ◌<◌, ◌==◌, Bool, true, false, ◌||◌, List, [], ◌∷◌, ◌++◌, length, take, refl, sym, ap, ◌∙◌, subst, arith}
use Rattle.std.specs.List.{list_any}
use Rattle.std.proofs.lemmas.Bool.{true≢false, or_parts, or_from, or_left, or_right, eqb-true, eq-eqb}
use Rattle.std.proofs.lemmas.List.Folds.{list_any-append}
use Rattle.acta_order.specs.Earlier.{waits}
use Rattle.acta_order.specs.Memos.{AreFree}
use Rattle.acta_order.specs.Orders.{is_in, AreDistinct, IsTimely, IsOrderOf}
use Rattle.acta_order.specs.Search.{at, placed}
use Rattle.acta_order.proofs.Placed.{AreWithin, within-top, within-below, at-other, find-at, same_bool, is-placed, placed-of, placed-find, distinct-placed}

pub or_second : (a b : Bool) → (a || b) ≡ true → a ≡ false → b ≡ true
or_second true b any none = absurd (true≢false none)
or_second false b any none = any

-- what one of them passes, any passes
pub any-in : (p : ℕ → Bool) (xs : List ℕ) (t : ℕ) → is_in xs t ≡ true → p t ≡ true → list_any p xs ≡ true
any-in p [] t there pass = absurd (true≢false (sym there))
any-in p (x ∷ xs) t there pass = of (λ later. any-in p xs t later pass) (x == t) refl there
  where
    of : (is_in xs t ≡ true → list_any p xs ≡ true) → (b : Bool) → (x == t) ≡ b → (b || is_in xs t) ≡ true → (p x || list_any p xs) ≡ true
    of later true e any = or_left (p x) (list_any p xs) (ap p (eqb-true x t e) ∙ pass)
    of later false e any = or_right (p x) (list_any p xs) (later any)

-- the parts of a timely list, and how they form one again
pub timely-back : (b : ℕ → ℕ → Bool) (xs ys : List ℕ) → IsTimely b (xs ++ ys) → IsTimely b ys
timely-back b [] ys timely = timely
timely-back b (x ∷ xs) ys timely = timely-back b xs ys timely.1

pub timely-apart : (b : ℕ → ℕ → Bool) (xs ys : List ℕ) (u : ℕ) → IsTimely b (xs ++ ys) → is_in xs u ≡ true → list_any (λ t. b t u) ys ≡ false
timely-apart b [] ys u timely there = absurd (true≢false (sym there))
timely-apart b (x ∷ xs) ys u timely there = of (λ later. timely-apart b xs ys u timely.1 later) (x == u) refl there
  where
    of : (is_in xs u ≡ true → list_any (λ t. b t u) ys ≡ false) → (c : Bool) → (x == u) ≡ c → (c || is_in xs u) ≡ true → list_any (λ t. b t u) ys ≡ false
    of later true e any =
        subst (λ n. list_any (λ t. b t n) ys ≡ false) (eqb-true x u e)
        (or_parts (list_any (λ t. b t x) xs) (list_any (λ t. b t x) ys) (sym (list_any-append (λ t. b t x) xs ys) ∙ timely.0)).1
    of later false e any = later any

pub timely-join : (b : ℕ → ℕ → Bool) (xs ys : List ℕ) → IsTimely b xs → IsTimely b ys → ((u : ℕ) → is_in xs u ≡ true → list_any (λ t. b t u) ys ≡ false) → IsTimely b (xs ++ ys)
timely-join b [] ys tx ty apart = ty
timely-join b (x ∷ xs) ys tx ty apart = (
  list_any-append (λ t. b t x) xs ys ∙ or_from (list_any (λ t. b t x) xs) (list_any (λ t. b t x) ys) tx.0 (apart x (or_left (x == x) (is_in xs x) (eq-eqb x x refl))),
  timely-join b xs ys tx.1 ty (λ u there. apart u (or_right (x == u) (is_in xs u) there)),
)

or_nothing : (a : Bool) → a ≡ false → (a || false) ≡ false
or_nothing true none = none
or_nothing false none = refl

pub timely-push : (b : ℕ → ℕ → Bool) (xs : List ℕ) (t : ℕ) → IsTimely b xs → ((u : ℕ) → is_in xs u ≡ true → b t u ≡ false) → IsTimely b (xs ++ t ∷ [])
timely-push b xs t timely apart = timely-join b xs (t ∷ []) timely (refl, tt) (λ u there. or_nothing (b t u) (apart u there))

-- the first ones of a list
pub take-in : (ts : List ℕ) (n j : ℕ) → j < length ts → j < n → is_in (take n ts) (at ts j) ≡ true
take-in [] n j within below = absurd (omega (arith, within))
take-in (t ∷ ts) zero j within below = absurd (omega (arith, below))
take-in (t ∷ ts) (suc n) zero within below = or_left (t == t) (is_in (take n ts) t) (eq-eqb t t refl)
take-in (t ∷ ts) (suc n) (suc j) within below = or_right (t == at ts j) (is_in (take n ts) (at ts j)) (take-in ts n j (omega (arith, within)) (omega (arith, below)))

pub record IsTaken (ts : List ℕ) (n t : ℕ) : Type 0 where
  pub pos : ℕ
  pub within : pos < length ts
  pub below : pos < n
  pub is : at ts pos ≡ t

pub find-taken : (ts : List ℕ) (n t : ℕ) → is_in (take n ts) t ≡ true → IsTaken ts n t
find-taken [] zero t there = absurd (true≢false (sym there))
find-taken [] (suc n) t there = absurd (true≢false (sym there))
find-taken (u ∷ ts) zero t there = absurd (true≢false (sym there))
find-taken (u ∷ ts) (suc n) t there = of (λ any. find-taken ts n t any) (u == t) refl there
  where
    of : (is_in (take n ts) t ≡ true → IsTaken ts n t) → (b : Bool) → (u == t) ≡ b → (b || is_in (take n ts) t) ≡ true → IsTaken (u ∷ ts) (suc n) t
    of later true e any = record { pos = zero; within = omega arith; below = omega arith; is = eqb-true u t e }
    of later false e any = let f = later any in record { pos = suc f.pos; within = let w = f.within in omega (arith, w); below = let w = f.below in omega (arith, w); is = f.is }

-- one position is that of each transaction
pub same-at : (ts : List ℕ) (i j : ℕ) → AreDistinct ts → i < length ts → j < length ts → at ts i ≡ at ts j → i ≡ j
same-at ts i j d wi wj same = of (i == j) refl
  where
    of : (b : Bool) → (i == j) ≡ b → i ≡ j
    of true e = eqb-true i j e
    of false e = absurd (true≢false (sym (eq-eqb (at ts i) (at ts j) same) ∙ at-other ts i j d wi wj (λ is. true≢false (sym (eq-eqb i j is) ∙ e))))

-- the placed transactions are timely
pub free-of : (lim : ℕ → ℕ) (ts stack : List ℕ) (i j : ℕ) → AreFree lim ts stack → is_in stack i ≡ true → j < lim (at ts i) → is_in stack j ≡ true
free-of lim ts [] i j free there early = absurd (true≢false (sym there))
free-of lim ts (c ∷ below) i j free there early = of (λ any. free-of lim ts below i j free.1 any early) (c == i) refl there
  where
    of : (is_in below i ≡ true → is_in below j ≡ true) → (b : Bool) → (c == i) ≡ b → (b || is_in below i) ≡ true → (c == j || is_in below j) ≡ true
    of later true e any = or_right (c == j) (is_in below j) (free.0 j (subst (λ n. j < lim (at ts n)) (sym (eqb-true c i e)) early))
    of later false e any = or_right (c == j) (is_in below j) (later any)

pub free-timely : (ts : List ℕ) (lim : ℕ → ℕ) (stack : List ℕ) → AreDistinct ts → AreWithin stack (length ts) → AreDistinct stack → AreFree lim ts stack → IsTimely (waits lim ts) (placed ts stack)
free-timely ts lim [] d w s free = tt
free-timely ts lim (c ∷ below) d w s free =
    timely-push (waits lim ts) (placed ts below) (at ts c)
    (free-timely ts lim below d (within-below c below (length ts) w) s.1 free.1)
    (λ u there.
    let f = placed-find ts below u there in
    of u f.pos f.there f.is (waits lim ts (at ts c) u) refl)
  where
    of : (u i : ℕ) → is_in below i ≡ true → at ts i ≡ u → (b : Bool) → waits lim ts (at ts c) u ≡ b → b ≡ false
    of u i there is false e = refl
    of u i there is true e =
        let t = find-taken ts (lim u) (at ts c) e in
        let same = same-at ts t.pos c d t.within (within-top c below (length ts) w) t.is in
        let early : c < lim (at ts i) = subst (λ n. c < lim n) (sym is) (let b = t.below in omega (arith, b, same)) in
        absurd (true≢false (sym (free-of lim ts below i c free.1 there early) ∙ s.0))

-- if each position is on the stack, it places an order
pub placed-order : (ts stack : List ℕ) (lim : ℕ → ℕ) → AreDistinct ts → AreWithin stack (length ts) → AreDistinct stack → AreFree lim ts stack → ((j : ℕ) → j < length ts → is_in stack j ≡ true) → IsOrderOf (waits lim ts) ts (placed ts stack)
placed-order ts stack lim d w s free all = record {
  each = λ t. same_bool (is_in (placed ts stack) t) (is_in ts t) (placed-of ts stack t w)
      (λ is. let f = find-at ts t is in subst (λ u. is_in (placed ts stack) u ≡ true) f.is (is-placed ts stack f.pos (all f.pos f.within)));
  once = distinct-placed ts stack d w s;
  timely = free-timely ts lim stack d w s free;
}
