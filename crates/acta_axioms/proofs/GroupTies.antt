-- The list computed for a history of a strict model without faults is its serial order.
use Rattle.std.proofs.Common.{◌≡◌, ℕ, length, ◌<◌, ◌==◌, Bool, true, false, cond, List, [], ◌∷◌, ◌++◌, get_or, map, filter, Option, Some, None, is_some, refl, sym, ap, ◌∙◌}
use Rattle.std.specs.Prelude.{option_map}
use Rattle.std.specs.List.{All, flat_map, filter_map, cons_option, AllByRecursion}
use Rattle.std.proofs.lemmas.Bool.{true≢false, eqb-true}
use Rattle.std.proofs.lemmas.List.Elements.{All-from_recursion, filter_map-append}
use Rattle.acta_table.specs.declared.answer.Fate.{Fate}
use Rattle.acta_table.specs.declared.event.Event.{Event}
use Rattle.acta_table.specs.declared.event.Event.TheVariants.{Operate}
use Rattle.acta_table.specs.declared.event.Kept.{Kept}
use Rattle.acta_table.specs.declared.event.Ret.{Ret}
use Rattle.acta_table.specs.declared.model.Parts.{Parts}
use Rattle.acta_axioms.specs.History.{places_after}
use Rattle.acta_axioms.specs.Operations.{Operation, Standing, operation_at, operation_in, operations, standing}
use Rattle.acta_axioms.specs.Faults.{faults_at, faults_in_places}
use Rattle.acta_axioms.proofs.Faultless.{IsFaultless, faultless-from, none-both}
use Rattle.acta_axioms.proofs.Growth.{at_end}
use Rattle.acta_axioms.specs.declared.serial.SerialItem.{SerialItem}
use Rattle.acta_axioms.specs.Serial.{is_strict, commit_order, group_of, serial_order, replayed}
use Rattle.acta_axioms.specs.SerialItems.{item_of, serial_items, items_of}
use Rattle.acta_axioms.proofs.SerialGrowth.{AllByRecursion-append, fates, stands_so, serial-history, order-places, strict-serial}
use Rattle.acta_axioms.proofs.StrictItems.{returned-some, object-there}

-- in a history without faults each operation has a return, and its object is in the model
record IsSound {A : Type 0} (m : Parts A) (o : Operation) : Type 0 where
  pub returned : is_some o.ret ≡ true
  pub object : o.object < length m.objects

all-sound : {A : Type 0} (m : Parts A) (front ks : List (Kept A)) → flat_map (faults_at m) (places_after front ks) ≡ [] → AllByRecursion (IsSound m) (filter_map operation_at (places_after front ks))
all-sound m front [] none = tt
all-sound {A} m front (k ∷ ks) none =
    let both = none-both (faults_at m (at_end front k)) (flat_map (faults_at m) (places_after (front ++ k ∷ []) ks)) none in
    of k.event (faultless-from m front k both.0) (all-sound m (front ++ k ∷ []) ks both.1)
  where
    of : (e : Event A) → IsFaultless m front (record { event = e; ret = k.ret }) → AllByRecursion (IsSound m) (filter_map operation_at (places_after (front ++ k ∷ []) ks))
        → AllByRecursion (IsSound m) (cons_option (operation_in (at_end front k) e) (filter_map operation_at (places_after (front ++ k ∷ []) ks)))
    of (Operate t ob op) fine later = (record { returned = returned-some m front k.ret t ob op fine.form_of_event fine.return; object = object-there m t ob op fine.form_of_event }, later)
    of _ fine later = later

-- lists

filter_map-flat_map : {X Y Z : Type 0} (f : Y → Option Z) (g : X → List Y) (xs : List X) → filter_map f (flat_map g xs) ≡ flat_map (λ x. filter_map f (g x)) xs
filter_map-flat_map f g [] = refl
filter_map-flat_map f g (x ∷ xs) = filter_map-append f (g x) (flat_map g xs) ∙ ap (λ ys. filter_map f (g x) ++ ys) (filter_map-flat_map f g xs)

all-filter : {X : Type 0} (P : X → Type 0) (test : X → Bool) (xs : List X) → AllByRecursion P xs → AllByRecursion P (filter test xs)
all-filter P test [] all = tt
all-filter P test (x ∷ xs) all = of (test x) (all-filter P test xs all.1)
  where
    of : (b : Bool) → AllByRecursion P (filter test xs) → AllByRecursion P (cond b (x ∷ filter test xs) (filter test xs))
    of true later = (all.0, later)
    of false later = later

all-groups : {X Y : Type 0} (P : Y → Type 0) (g : X → List Y) → ((x : X) → AllByRecursion P (g x)) → (xs : List X) → AllByRecursion P (flat_map g xs)
all-groups P g each [] = tt
all-groups P g each (x ∷ xs) = AllByRecursion-append P (g x) (flat_map g xs) (each x) (all-groups P g each xs)

-- the operations of a committed transaction, as items
group-listed : {A : Type 0} (m : Parts A) (h : List (Kept A)) (f : ℕ → Fate) (t : ℕ) (os : List Operation) → AllByRecursion (λ o. standing m h o ≡ stands_so f o) os
    → filter_map (λ o. item_of (standing m h o).holder o) (filter (λ o. o.invoker == t) os) ≡ filter_map (item_of t) (filter (λ o. o.invoker == t) os)
group-listed m h f t [] all = refl
group-listed m h f t (o ∷ os) all = of (o.invoker == t) refl (group-listed m h f t os all.1)
  where
    of : (b : Bool) → (o.invoker == t) ≡ b
        → filter_map (λ x. item_of (standing m h x).holder x) (filter (λ x. x.invoker == t) os) ≡ filter_map (item_of t) (filter (λ x. x.invoker == t) os)
        → filter_map (λ x. item_of (standing m h x).holder x) (cond b (o ∷ filter (λ x. x.invoker == t) os) (filter (λ x. x.invoker == t) os)) ≡ filter_map (item_of t) (cond b (o ∷ filter (λ x. x.invoker == t) os) (filter (λ x. x.invoker == t) os))
    of true same later = λ i. cons_option (item_of ((ap (λ (s : Standing). s.holder) all.0 ∙ eqb-true o.invoker t same) i) o) (later i)
    of false same later = later

-- the concatenated groups are the serial order
pub listed-serial : {A : Type 0} (m : Parts A) (h : List (Kept A)) (groups : List (List SerialItem)) → is_strict m ≡ true → faults_in_places m h ≡ [] → ((t : ℕ) → get_or groups t [] ≡ items_of h t)
    → flat_map (λ t. get_or groups t []) (commit_order h) ≡ serial_items m h
listed-serial m h groups strict none grouped =
    let so_far = serial-history m h strict none in
    (λ i. flat_map (λ t. grouped t i) (commit_order h))
    ∙ (λ i. flat_map (λ t. sym (group-listed m h (fates h) t (operations h) so_far.stand) i) (commit_order h))
    ∙ sym (filter_map-flat_map (λ o. item_of (standing m h o).holder o) (λ t. filter (λ o. o.invoker == t) (operations h)) (commit_order h))
    ∙ ap (filter_map (λ o. item_of (standing m h o).holder o)) (sym (order-places m h strict none))

-- each has the return that is recorded, and so the one that replay gives
one-ret : (t : ℕ) (o : Operation) (r : Option Ret) → o.ret ≡ r → is_some o.ret ≡ true → (rs : List (Option Ret)) (items : List SerialItem) → rs ≡ map (λ item. Some item.ret) items → o.ret ∷ rs ≡ map (λ item. Some item.ret) (cons_option (item_of t o) items)
one-ret t o None is has rs items later = absurd (true≢false (sym has ∙ ap is_some is))
one-ret t o (Some r) is has rs items later =
    (λ i. is i ∷ later i)
    ∙ ap (λ x. map (λ item. Some item.ret) (cons_option (option_map (λ ret. record { number = record { 0 = o.number }; txn = record { 0 = t }; ob = record { 0 = o.object }; op = o.op; ret = ret }) x) items)) (sym is)

rets-listed : {A : Type 0} (m : Parts A) (holder : Operation → ℕ) (os : List Operation) → AllByRecursion (IsSound m) os → map (λ o. o.ret) os ≡ map (λ item. Some item.ret) (filter_map (λ o. item_of (holder o) o) os)
rets-listed m holder [] all = refl
rets-listed m holder (o ∷ os) all = one-ret (holder o) o o.ret refl all.0.returned (map (λ x. x.ret) os) (filter_map (λ x. item_of (holder x) x) os) (rets-listed m holder os all.1)

ordered-sound : {A : Type 0} (m : Parts A) (h : List (Kept A)) → faults_in_places m h ≡ [] → AllByRecursion (IsSound m) (serial_order m h)
ordered-sound m h none = all-groups (IsSound m) (group_of m h) (λ t. all-filter (IsSound m) _ (operations h) (all-sound m [] h none)) (commit_order h)

pub listed-replayed : {A : Type 0} (m : Parts A) (h : List (Kept A)) → is_strict m ≡ true → faults_in_places m h ≡ [] → replayed m (serial_order m h) ≡ map (λ item. Some item.ret) (serial_items m h)
listed-replayed m h strict none =
    strict-serial m h strict none ∙ rets-listed m (λ o. (standing m h o).holder) (serial_order m h) (ordered-sound m h none)

-- and the objects are in the model
objects-listed : {A : Type 0} (m : Parts A) (holder : Operation → ℕ) (os : List Operation) → AllByRecursion (IsSound m) os → AllByRecursion (λ item. item.ob.0 < length m.objects) (filter_map (λ o. item_of (holder o) o) os)
objects-listed m holder [] all = tt
objects-listed m holder (o ∷ os) all = of o.ret (objects-listed m holder os all.1)
  where
    of : (r : Option Ret) → AllByRecursion (λ item. item.ob.0 < length m.objects) (filter_map (λ x. item_of (holder x) x) os)
        → AllByRecursion (λ item. item.ob.0 < length m.objects) (cons_option (option_map (λ ret. record { number = record { 0 = o.number }; txn = record { 0 = holder o }; ob = record { 0 = o.object }; op = o.op; ret = ret }) r) (filter_map (λ x. item_of (holder x) x) os))
    of None later = later
    of (Some ret) later = (all.0.object, later)

pub listed-objects : {A : Type 0} (m : Parts A) (h : List (Kept A)) → faults_in_places m h ≡ [] → All (λ item. item.ob.0 < length m.objects) (serial_items m h)
listed-objects m h none = All-from_recursion (λ item. item.ob.0 < length m.objects) (serial_items m h) (objects-listed m (λ o. (standing m h o).holder) (serial_order m h) (ordered-sound m h none))
