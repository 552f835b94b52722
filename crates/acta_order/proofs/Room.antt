-- The groups of different transactions have no more operations than the history.
use Rattle.std.proofs.Common.{◌≡◌, ℕ, ◌+◌, ◌≤◌, ◌==◌, Bool, true, false, cond, ◌&&◌, List, [], ◌∷◌, ◌++◌, length, filter, Option, Some, None, refl, sym, ap, ◌∙◌, arith}
use Rattle.std.specs.Prelude.{filter_map}
use Rattle.std.specs.List.{flat_map, cons_option}
use Rattle.std.proofs.lemmas.Bool.{true≢false, eqb-true, eq-eqb, or_parts}
use Rattle.std.proofs.lemmas.List.{length-append, length-map}
use Rattle.acta_table.specs.declared.event.Kept.{Kept}
use Rattle.acta_table.specs.declared.limits.TheConstants.{MOST_EVENTS}
use Rattle.acta_table.specs.declared.model.Parts.{Parts}
use Rattle.acta_table.specs.Fates.{is_committed}
use Rattle.acta_axioms.specs.History.{places, places_after}
use Rattle.acta_axioms.specs.Operations.{Operation, operation_at, operations, standing}
use Rattle.acta_order.specs.declared.item.Item.{Item}
use Rattle.acta_order.specs.Faults.{AreFew}
use Rattle.acta_order.specs.Orders.{is_in, AreDistinct, groups_in}
use Rattle.acta_order.specs.Search.{item_of}
use Rattle.acta_order.proofs.Answering.{AreGroups, items-in}

-- how many of these groups an operation is in
abbrev hits : (Operation → ℕ) → (Operation → Bool) → List ℕ → Operation → ℕ
hits holder is [] o = 0
hits holder is (t ∷ ts) o = cond ((holder o == t) && is o) 1 0 + hits holder is ts o

hits-none : (holder : Operation → ℕ) (is : Operation → Bool) (ts : List ℕ) (o : Operation) → is_in ts (holder o) ≡ false → hits holder is ts o ≡ 0
hits-none holder is [] o out = refl
hits-none holder is (t ∷ ts) o out =
    let parts = or_parts (t == holder o) (is_in ts (holder o)) out in
    let rest = hits-none holder is ts o parts.1 in
    of rest (holder o == t) (is o) refl parts.0
  where
    of : hits holder is ts o ≡ 0 → (b c : Bool) → (holder o == t) ≡ b → (t == holder o) ≡ false → cond (b && c) 1 0 + hits holder is ts o ≡ 0
    of rest true c e apart = absurd (true≢false (sym (ap (λ n. t == n) (eqb-true (holder o) t e) ∙ eq-eqb t t refl) ∙ apart))
    of rest false c e apart = omega (arith, rest)

hits-one : (holder : Operation → ℕ) (is : Operation → Bool) (ts : List ℕ) (o : Operation) → AreDistinct ts → hits holder is ts o ≤ 1
hits-one holder is [] o d = omega arith
hits-one holder is (t ∷ ts) o d = of (hits-one holder is ts o d.1) (λ e. hits-none holder is ts o (ap (is_in ts) e ∙ d.0)) (holder o == t) (is o) refl
  where
    of : hits holder is ts o ≤ 1 → (holder o ≡ t → hits holder is ts o ≡ 0) → (b c : Bool) → (holder o == t) ≡ b → cond (b && c) 1 0 + hits holder is ts o ≤ 1
    of rest none true true e = let zero_ = none (eqb-true (holder o) t e) in omega (arith, zero_)
    of rest none true false e = omega (arith, rest)
    of rest none false c e = omega (arith, rest)

abbrev total : (Operation → ℕ) → (Operation → Bool) → List ℕ → List Operation → ℕ
total holder is ts os = length (flat_map (λ t. filter (λ o. (holder o == t) && is o) os) ts)

filter-long : (p : Operation → Bool) (o : Operation) (os : List Operation) → length (filter p (o ∷ os)) ≡ cond (p o) 1 0 + length (filter p os)
filter-long p o os = of (p o)
  where
    of : (b : Bool) → length (cond b (o ∷ filter p os) (filter p os)) ≡ cond b 1 0 + length (filter p os)
    of true = omega arith
    of false = omega arith

total-more : (holder : Operation → ℕ) (is : Operation → Bool) (ts : List ℕ) (o : Operation) (os : List Operation) → total holder is ts (o ∷ os) ≡ total holder is ts os + hits holder is ts o
total-more holder is [] o os = omega arith
total-more holder is (t ∷ ts) o os =
    let p : Operation → Bool = λ x. (holder x == t) && is x in
    let f = filter-long p o os in
    let rest = total-more holder is ts o os in
    let here = length-append (filter p (o ∷ os)) (flat_map (λ u. filter (λ x. (holder x == u) && is x) (o ∷ os)) ts) in
    let there = length-append (filter p os) (flat_map (λ u. filter (λ x. (holder x == u) && is x) os) ts) in
    omega (arith, f, rest, here, there)

total-none : (holder : Operation → ℕ) (is : Operation → Bool) (ts : List ℕ) → total holder is ts [] ≡ 0
total-none holder is [] = refl
total-none holder is (t ∷ ts) = total-none holder is ts

total-few : (holder : Operation → ℕ) (is : Operation → Bool) (ts : List ℕ) (os : List Operation) → AreDistinct ts → total holder is ts os ≤ length os
total-few holder is ts [] d = let e = total-none holder is ts in omega (arith, e)
total-few holder is ts (o ∷ os) d =
    let rest = total-few holder is ts os d in
    let e = total-more holder is ts o os in
    let one = hits-one holder is ts o d in
    omega (arith, rest, e, one)

-- a history has no more operations than events
mapped-few : {X Y : Type 0} (f : X → Option Y) (xs : List X) → length (filter_map f xs) ≤ length xs
mapped-few f [] = omega arith
mapped-few {X} {Y} f (x ∷ xs) = of (mapped-few f xs) (f x)
  where
    of : length (filter_map f xs) ≤ length xs → (o : Option Y) → length (cons_option o (filter_map f xs)) ≤ length (x ∷ xs)
    of rest None = omega (arith, rest)
    of rest (Some y) = omega (arith, rest)

places-long : {A : Type 0} (before h : List (Kept A)) → length (places_after before h) ≡ length h
places-long before [] = refl
places-long {A} before (k ∷ h) = let rest = places-long (before ++ k ∷ []) h in omega (arith, rest)

pub groups-few : {A : Type 0} (m : Parts A) (h : List (Kept A)) (g : ℕ → List Item) → AreGroups m h g → length h ≤ MOST_EVENTS → AreFew g
groups-few {A} m h g are few order d =
    let items = ap length (items-in m h g order are) ∙ length-map (groups_in m h order) item_of in
    let all = total-few (λ o. (standing m h o).holder) (λ o. is_committed (standing m h o).fate) order (operations h) d in
    let own = mapped-few (operation_at {A = A}) (places h) in
    let long = places-long {A = A} [] h in
    omega (arith, items, all, own, long, few)
