-- From groups of items to the operations of a history: what is found there is an answer.
use Rattle.std.proofs.Common.{◌≡◌, ℕ, ◌<◌, ◌==◌, Bool, true, false, ◌&&◌, ◌||◌, List, [], ◌∷◌, ◌++◌, length, get_or, drop, map, reverse, Option, None, Result, Ok, Err, IsErrAnd, IfErr, refl, sym, ap, ◌∙◌, subst, arith}
use Rattle.std.specs.Prelude.{option_map, scan, is_some}
use Rattle.std.specs.List.{flat_map, list_all}
use Rattle.std.specs.Option.{option_map_or}
use Rattle.std.proofs.lemmas.Bool.{true≢false, and_parts, eqb-true}
use Rattle.std.proofs.lemmas.List.{length-append, length-map, map-append}
use Rattle.std.proofs.lemmas.List.Folds.{list_all-append, list_all-map}
use Rattle.std.proofs.lemmas.Option.{slice_get-map}
use Rattle.acta_table.specs.declared.event.Kept.{Kept}
use Rattle.acta_table.specs.declared.event.Ret.{Ret}
use Rattle.acta_table.specs.declared.model.Object.{Object}
use Rattle.acta_table.specs.declared.model.Parts.{Parts}
use Rattle.acta_objects.specs.Objects.{first_state, suits}
use Rattle.acta_values.specs.KeptValues.{kinds_of}
use Rattle.acta_axioms.specs.Operations.{Operation}
use Rattle.acta_axioms.specs.Serial.{Values, commit_order, group_of, first_values, values_after, returned_from}
use Rattle.acta_order.specs.declared.item.Item.{Item}
use Rattle.acta_order.specs.declared.orders.Orders.{Orders}
use Rattle.acta_order.specs.declared.fault.OrderFault.{OrderFault}
use Rattle.acta_order.specs.declared.fault.OrderFault.TheVariants.{TooMany, TooLong, Memory}
use Rattle.acta_order.specs.Earlier.{waits}
use Rattle.acta_order.specs.Faults.{IsReached, AreReached, IsSearchFault}
use Rattle.acta_order.specs.Orders.{is_in, is_before, AreDistinct, IsTimely, IsOrderOf, IsOrder, IsSerial, groups_in, can_replay, Replays, AreOthers, AreDifferent, IsState, AreStates, IsFault}
use Rattle.acta_order.specs.Search.{item_of, at, placed, values_at, is_sound, AreSound, Plays, IsFoundOrder, IsFound}
use Rattle.acta_order.proofs.Placed.{AreWithin, within-top, within-below, at-in, is_in-reverse, placed-of, distinct-placed}
use Rattle.acta_order.proofs.Playing.{sound-placed}
use Rattle.acta_order.proofs.Timely.{same-at, free-timely}

-- the values that a replay has at first
pub first-replay : {A : Type 0} (m : Parts A) → values_at {A = A} (kinds_of m.objects) [] ≡ first_values m
first-replay {A} m = λ i object. ap (option_map (first_state {A = A})) (slice_get-map (λ (o : Object A). o.kind) m.objects object) i

-- returns as they are recorded
pub to-plays : {A : Type 0} (v : Values A) (os : List Operation) → scan (values_after {A = A}) returned_from v os ≡ map (λ o. o.ret) os → Plays v (map item_of os)
to-plays v [] e = tt
to-plays v (o ∷ os) e = (ap (λ (xs : List (Option Ret)). get_or xs 0 None) e, to-plays (values_after v o) os (ap (λ (xs : List (Option Ret)). drop 1 xs) e))

pub from-plays : {A : Type 0} (v : Values A) (os : List Operation) → Plays v (map item_of os) → scan (values_after {A = A}) returned_from v os ≡ map (λ o. o.ret) os
from-plays v [] p = refl
from-plays v (o ∷ os) p = λ i. p.0 i ∷ from-plays (values_after v o) os p.1 i

-- which operations can be replayed
pub all-replay : {A : Type 0} (m : Parts A) (os : List Operation) → list_all (is_sound (kinds_of m.objects)) (map item_of os) ≡ list_all (can_replay m) os
all-replay {A} m os =
    list_all-map (is_sound (kinds_of m.objects)) item_of os
    ∙ (λ i. list_all (λ (o : Operation). option_map_or (λ kind. suits kind o.op) (slice_get-map (λ (x : Object A). x.kind) m.objects o.object i) false && is_some o.ret) os)

-- one group after another
flat-map : {X Y : Type 0} (f : X → Y) (g : ℕ → List X) (ts : List ℕ) → flat_map (λ t. map f (g t)) ts ≡ map f (flat_map g ts)
flat-map f g [] = refl
flat-map {X} {Y} f g (t ∷ ts) = ap (λ (ys : List Y). map f (g t) ++ ys) (flat-map f g ts) ∙ sym (map-append f (g t) (flat_map g ts))

-- the groups are those of the history
abbrev pub AreGroups : {A : Type 0} → Parts A → List (Kept A) → (ℕ → List Item) → Type 0
AreGroups m h g = (t : ℕ) → g t ≡ map item_of (group_of m h t)

pub items-in : {A : Type 0} (m : Parts A) (h : List (Kept A)) (g : ℕ → List Item) (order : List ℕ) → AreGroups m h g → flat_map g order ≡ map item_of (groups_in m h order)
items-in m h g order are = (λ i. flat_map (λ t. are t i) order) ∙ flat-map item_of (group_of m h) order

pub replays-plays : {A : Type 0} (m : Parts A) (h : List (Kept A)) (g : ℕ → List Item) (order : List ℕ) → AreGroups m h g → Replays m h order → Plays (values_at {A = A} (kinds_of m.objects) []) (flat_map g order)
replays-plays {A} m h g order are r =
    subst (λ (v : Values A). Plays v (flat_map g order)) (sym (first-replay m))
    (subst (Plays (first_values m)) (sym (items-in m h g order are)) (to-plays (first_values m) (groups_in m h order) r.returns))

pub plays-replays : {A : Type 0} (m : Parts A) (h : List (Kept A)) (g : ℕ → List Item) (order : List ℕ) → AreGroups m h g → list_all (is_sound (kinds_of m.objects)) (flat_map g order) ≡ true → Plays (values_at {A = A} (kinds_of m.objects) []) (flat_map g order) → Replays m h order
plays-replays {A} m h g order are sound p = record {
  sound = sym (ap (list_all (is_sound (kinds_of m.objects))) (items-in m h g order are) ∙ all-replay m (groups_in m h order)) ∙ sound;
  returns = from-plays (first_values m) (groups_in m h order)
      (subst (Plays (first_values m)) (items-in m h g order are) (subst (λ (v : Values A). Plays v (flat_map g order)) (first-replay m) p));
}

-- what all have, each group has
all-of : (p : Item → Bool) (g : ℕ → List Item) (order : List ℕ) (t : ℕ) → list_all p (flat_map g order) ≡ true → is_in order t ≡ true → list_all p (g t) ≡ true
all-of p g [] t all is = absurd (true≢false (sym is))
all-of p g (u ∷ order) t all is =
    let both = and_parts (list_all p (g u)) (list_all p (flat_map g order)) (sym (list_all-append p (g u) (flat_map g order)) ∙ all) in
    of both.0 (λ any. all-of p g order t both.1 any) (u == t) refl is
  where
    of : list_all p (g u) ≡ true → (is_in order t ≡ true → list_all p (g t) ≡ true) → (b : Bool) → (u == t) ≡ b → (b || is_in order t) ≡ true → list_all p (g t) ≡ true
    of here later true e any = subst (λ n. list_all p (g n) ≡ true) (eqb-true u t e) here
    of here later false e any = later any

-- orders of the transactions that commit
abbrev pub AreCommitted : {A : Type 0} → List (Kept A) → List ℕ → Type 0
AreCommitted h ts = (t : ℕ) → is_in ts t ≡ is_in (commit_order h) t

to-order : {A : Type 0} (orders : Orders) (h : List (Kept A)) (lim : ℕ → ℕ) (ts order : List ℕ) → AreCommitted h ts → waits lim ts ≡ is_before orders h → IsOrder orders h order → IsOrderOf (waits lim ts) ts order
to-order orders h lim ts order those before ok = record { each = λ t. ok.each t ∙ sym (those t); once = ok.once; timely = subst (λ (b : ℕ → ℕ → Bool). IsTimely b order) (sym before) ok.timely }

from-order : {A : Type 0} (orders : Orders) (h : List (Kept A)) (lim : ℕ → ℕ) (ts order : List ℕ) → AreCommitted h ts → waits lim ts ≡ is_before orders h → IsOrderOf (waits lim ts) ts order → IsOrder orders h order
from-order orders h lim ts order those before ok = record { each = λ t. ok.each t ∙ those t; once = ok.once; timely = subst (λ (b : ℕ → ℕ → Bool). IsTimely b order) before ok.timely }

-- the answers

pub answer-unsound : {A : Type 0} (orders : Orders) (m : Parts A) (h : List (Kept A)) (g : ℕ → List Item) (ts : List ℕ) (j : ℕ) → AreGroups m h g → AreCommitted h ts → j < length ts → list_all (is_sound (kinds_of m.objects)) (g (at ts j)) ≡ false
    → (order : List ℕ) → IsOrder orders h order → Replays m h order → ⊥
answer-unsound orders m h g ts j are those within not order ok r =
    let all = ap (list_all (is_sound (kinds_of m.objects))) (items-in m h g order are) ∙ all-replay m (groups_in m h order) ∙ r.sound in
    let there = ok.each (at ts j) ∙ sym (those (at ts j)) ∙ at-in ts j within in
    true≢false (sym (all-of (is_sound (kinds_of m.objects)) g order (at ts j) all there) ∙ not)

pub answer-none : {A : Type 0} (orders : Orders) (m : Parts A) (h : List (Kept A)) (g : ℕ → List Item) (lim : ℕ → ℕ) (ts : List ℕ) → AreGroups m h g → AreCommitted h ts → waits lim ts ≡ is_before orders h → IsFound (values_at {A = A} (kinds_of m.objects) []) g lim ts None
    → (order : List ℕ) → IsOrder orders h order → Replays m h order → ⊥
answer-none orders m h g lim ts are those before none order ok r = none order (to-order orders h lim ts order those before ok) (replays-plays m h g order are r)

pub answer-found : {A : Type 0} (orders : Orders) (m : Parts A) (h : List (Kept A)) (g : ℕ → List Item) (lim : ℕ → ℕ) (ts order : List ℕ) → AreGroups m h g → AreCommitted h ts → waits lim ts ≡ is_before orders h → (AreDistinct (commit_order h) → ts ≡ commit_order h)
    → IsFoundOrder (values_at {A = A} (kinds_of m.objects) []) g lim ts order → list_all (is_sound (kinds_of m.objects)) (flat_map g order) ≡ true → IsSerial orders m h order
answer-found {A} orders m h g lim ts order are those before in_order found sound = record {
  order_is = from-order orders h lim ts order those before found.order_is;
  replays = plays-replays m h g order are sound found.plays;
  commits_first = λ ok r.
      let same : ts ≡ commit_order h = in_order ok.once in
      let own : IsOrderOf (waits lim ts) ts ts = subst (λ (xs : List ℕ). IsOrderOf (waits lim ts) ts xs) (sym same) (to-order orders h lim ts (commit_order h) those before ok) in
      let plays : Plays (values_at {A = A} (kinds_of m.objects) []) (flat_map g ts) = subst (λ (xs : List ℕ). Plays (values_at {A = A} (kinds_of m.objects) []) (flat_map g xs)) (sym same) (replays-plays m h g (commit_order h) are r) in
      found.same_first own plays ∙ same;
}

-- the transactions that commit, as they are taken
pub taken-committed : {A : Type 0} (h : List (Kept A)) (ts stack : List ℕ) → ts ≡ reverse stack → ((t : ℕ) → is_in stack t ≡ is_in (commit_order h) t) → AreCommitted h ts
taken-committed h ts stack is each t = ap (λ (xs : List ℕ). is_in xs t) is ∙ is_in-reverse stack t ∙ each t

-- states, from the stacks that a search comes to

snoc-same : (xs ys : List ℕ) (x y : ℕ) → xs ++ x ∷ [] ≡ ys ++ y ∷ [] → (xs ≡ ys) × (x ≡ y)
snoc-same [] [] x y is = (refl, ap (λ (zs : List ℕ). get_or zs 0 0) is)
snoc-same [] (v ∷ ys) x y is = let e = ap length is in let m = length-append ys (y ∷ []) in absurd (omega (arith, e, m))
snoc-same (u ∷ xs) [] x y is = let e = ap length is in let m = length-append xs (x ∷ []) in absurd (omega (arith, e, m))
snoc-same (u ∷ xs) (v ∷ ys) x y is =
    let rest = snoc-same xs ys x y (ap (λ (zs : List ℕ). drop 1 zs) is) in
    ((λ i. get_or (is i) 0 0 ∷ rest.0 i), rest.1)

placed-once : (ts s z : List ℕ) → AreDistinct ts → AreWithin s (length ts) → AreWithin z (length ts) → placed ts s ≡ placed ts z → s ≡ z
placed-once ts [] [] d ws wz is = refl
placed-once ts [] (c ∷ z) d ws wz is = let e = ap length is in let m = length-append (placed ts z) (at ts c ∷ []) in absurd (omega (arith, e, m))
placed-once ts (b ∷ s) [] d ws wz is = let e = ap length is in let m = length-append (placed ts s) (at ts b ∷ []) in absurd (omega (arith, e, m))
placed-once ts (b ∷ s) (c ∷ z) d ws wz is =
    let parts = snoc-same (placed ts s) (placed ts z) (at ts b) (at ts c) is in
    let rest = placed-once ts s z d (within-below b s (length ts) ws) (within-below c z (length ts) wz) parts.0 in
    let top = same-at ts b c d (within-top b s (length ts) ws) (within-top c z (length ts) wz) parts.1 in
    (λ i. top i ∷ rest i)

fronts-others : {A : Type 0} (v : Values A) (g : ℕ → List Item) (lim : ℕ → ℕ) (ts s : List ℕ) (zs : List (List ℕ)) → AreDistinct ts → AreWithin s (length ts) → AreReached v g lim ts zs → AreOthers s zs → AreOthers (placed ts s) (map (placed ts) zs)
fronts-others v g lim ts s [] d w r o = tt
fronts-others v g lim ts s (z ∷ zs) d w r o = (λ is. o.0 (placed-once ts s z d w r.0.within is), fronts-others v g lim ts s zs d w r.1 o.1)

fronts-different : {A : Type 0} (v : Values A) (g : ℕ → List Item) (lim : ℕ → ℕ) (ts : List ℕ) (zs : List (List ℕ)) → AreDistinct ts → AreReached v g lim ts zs → AreDifferent zs → AreDifferent (map (placed ts) zs)
fronts-different v g lim ts [] d r o = tt
fronts-different v g lim ts (z ∷ zs) d r o = (fronts-others v g lim ts z zs d r.0.within r.1 o.0, fronts-different v g lim ts zs d r.1 o.1)

pub front-state : {A : Type 0} (orders : Orders) (m : Parts A) (h : List (Kept A)) (g : ℕ → List Item) (lim : ℕ → ℕ) (ts stack : List ℕ) → AreGroups m h g → AreCommitted h ts → waits lim ts ≡ is_before orders h → AreDistinct ts → AreSound (kinds_of m.objects) g ts
    → IsReached (values_at {A = A} (kinds_of m.objects) []) g lim ts stack → IsState orders m h (placed ts stack)
front-state orders m h g lim ts stack are those before d sound r = record {
  committed = λ t there. sym (those t) ∙ placed-of ts stack t r.within there;
  once = distinct-placed ts stack d r.within r.distinct;
  timely = subst (λ (b : ℕ → ℕ → Bool). IsTimely b (placed ts stack)) before (free-timely ts lim stack d r.within r.distinct r.free);
  replays = plays-replays m h g (placed ts stack) are (sound-placed (kinds_of m.objects) g ts stack sound r.within) r.plays;
}

fronts-states : {A : Type 0} (orders : Orders) (m : Parts A) (h : List (Kept A)) (g : ℕ → List Item) (lim : ℕ → ℕ) (ts : List ℕ) (zs : List (List ℕ)) → AreGroups m h g → AreCommitted h ts → waits lim ts ≡ is_before orders h → AreDistinct ts → AreSound (kinds_of m.objects) g ts
    → AreReached (values_at {A = A} (kinds_of m.objects) []) g lim ts zs → AreStates orders m h (map (placed ts) zs)
fronts-states orders m h g lim ts [] are those before d sound r = tt
fronts-states orders m h g lim ts (z ∷ zs) are those before d sound r = (front-state orders m h g lim ts z are those before d sound r.0, fronts-states orders m h g lim ts zs are those before d sound r.1)

pub answer-fault : {A : Type 0} (orders : Orders) (m : Parts A) (h : List (Kept A)) (g : ℕ → List Item) (lim : ℕ → ℕ) (ts : List ℕ) (most : ℕ) (f : OrderFault) → AreGroups m h g → AreCommitted h ts → waits lim ts ≡ is_before orders h → AreDistinct ts → AreSound (kinds_of m.objects) g ts
    → IsSearchFault (values_at {A = A} (kinds_of m.objects) []) g lim ts most f → IsFault orders m h most f
answer-fault orders m h g lim ts most TooMany are those before d sound r = record {
  fronts = map (placed ts) r.stacks;
  more = let e = length-map r.stacks (placed ts) in let n = r.more in omega (arith, e, n);
  different = fronts-different (values_at (kinds_of m.objects) []) g lim ts r.stacks d r.reached r.different;
  states = fronts-states orders m h g lim ts r.stacks are those before d sound r.reached;
}
answer-fault orders m h g lim ts most TooLong are those before d sound r = absurd r
answer-fault orders m h g lim ts most Memory are those before d sound r = tt

-- an error that is passed on is what it was
pub passed-on : {T E : Type 0} (r : Result T E) (x : E) (P : E → Type 0) → P x → IsErrAnd r (λ e. e ≡ x) → IfErr r P
passed-on (Ok t) x P p is = tt
passed-on (Err e) x P p is = subst P (sym is) p
