-- Definitions for internal contracts of the search; no public promise needs them.
use Rattle.std.specs.Prelude.{◌≡◌, ℕ, ◌<◌, ◌≤◌, Bool, true, false, ◌&&◌, ◌==◌, ⊤, List, [], ◌∷◌, ◌++◌, map, flat_map, get_or, slice_get, length, if◌then◌else◌, Option, Some, None, is_some, option_map}
use Rattle.std.specs.List.{list_all}
use Rattle.std.specs.Option.{option_map_or}
use Rattle.acta_table.specs.declared.answer.Fate.TheVariants.{InProgress}
use Rattle.acta_table.specs.declared.event.Ret.{Ret}
use Rattle.acta_table.specs.declared.model.Kind.{Kind}
use Rattle.acta_objects.specs.Objects.{first_state, state_after, step, returned, suits}
use Rattle.acta_sets.specs.declared.held_op.HeldOp.{HeldOp}
use Rattle.acta_values.specs.Live.{live_ops}
use Rattle.acta_axioms.specs.Operations.{Operation}
use Rattle.acta_axioms.specs.Serial.{Values}
use Rattle.acta_order.specs.declared.item.Item.{Item}
use Rattle.acta_order.specs.Earlier.{waits}
use Rattle.acta_order.specs.Orders.{IsOrderOf, is_in}

-- an operation as it is replayed
abbrev pub item_of : Operation → Item
item_of o = record { number = record { 0 = o.number }; ob = record { 0 = o.object }; op = o.op; ret = o.ret }

-- the kinds of the objects, and the operations that are done
pub record Replaying : Type 0 where
  pub kinds : List Kind
  pub done : List Item

-- an item among the operations that are done
abbrev pub held : Item → HeldOp
held i = record { ob = i.ob; op = i.op; holder = record { 0 = 0 }; fate = InProgress }

-- the values of objects of these kinds after these operations
abbrev pub values_at : {A : Type 0} → List Kind → List HeldOp → Values A
values_at kinds done object = option_map (λ kind. state_after (first_state kind) (live_ops kind done object)) (slice_get kinds object)

-- the values on a replay
abbrev pub values_of : {A : Type 0} → Replaying → Values A
values_of b = values_at b.kinds (map held b.done)

-- whether an item is on an object of these kinds, of its kind, and has a return
abbrev pub is_sound : List Kind → Item → Bool
is_sound kinds i = option_map_or (λ kind. suits kind i.op) (slice_get kinds i.ob.0) false && is_some i.ret

-- the values after an item, and what it returns
abbrev pub after : {A : Type 0} → Values A → Item → Values A
after values i object = if i.ob.0 == object then option_map (λ s. step s i.op) (values object) else values object

abbrev pub due : {A : Type 0} → Values A → Item → Option Ret
due values i = option_map (λ s. returned s i.op) (values i.ob.0)

-- done in order from these values, each item has its recorded return
abbrev pub Plays : {A : Type 0} → Values A → List Item → Type 0
Plays values [] = ⊤
Plays values (i ∷ is) = (due values i ≡ i.ret) × Plays (after values i) is

-- the transaction at a position
abbrev pub at : List ℕ → ℕ → ℕ
at ts j = get_or ts j 0

-- the transactions placed by a stack of positions, which has the last on top
abbrev pub placed : List ℕ → List ℕ → List ℕ
placed ts [] = []
placed ts (c ∷ below) = placed ts below ++ at ts c ∷ []

-- a position that can't be placed next: it is placed, an earlier transaction is not, or its group doesn't replay
abbrev pub IsPassed : {A : Type 0} → Values A → (ℕ → List Item) → (ℕ → ℕ) → List ℕ → List ℕ → ℕ → ℕ → Type 0
IsPassed values group lim ts stack low j = is_in stack j ≡ false → lim (at ts j) ≤ low → Plays values (group (at ts j)) → ⊥

-- the first position from this one on that can be placed next, and its group is done; or there is none
pub record IsNext (A : Type 0) (old new : Replaying) (group : ℕ → List Item) (lim : ℕ → ℕ) (ts stack : List ℕ) (low from c : ℕ) : Type 0 where
  pub from_on : from ≤ c
  pub high : c < length ts
  pub open_there : is_in stack c ≡ false
  pub free : lim (at ts c) ≤ low
  pub replay : new ≡ record old { done = old.done ++ group (at ts c) }
  pub plays : Plays (values_of {A = A} old) (group (at ts c))
  pub passed : (j : ℕ) → from ≤ j → j < c → IsPassed (values_of {A = A} old) group lim ts stack low j

pub record IsNone (A : Type 0) (old new : Replaying) (group : ℕ → List Item) (lim : ℕ → ℕ) (ts stack : List ℕ) (low from : ℕ) : Type 0 where
  pub replay : new ≡ old
  pub passed : (j : ℕ) → from ≤ j → j < length ts → IsPassed (values_of {A = A} old) group lim ts stack low j

abbrev pub IsFoundNext : (A : Type 0) → Replaying → Replaying → (ℕ → List Item) → (ℕ → ℕ) → List ℕ → List ℕ → ℕ → ℕ → Option ℕ → Type 0
IsFoundNext A old new group lim ts stack low from (Some c) = IsNext A old new group lim ts stack low from c
IsFoundNext A old new group lim ts stack low from None = IsNone A old new group lim ts stack low from

-- no order of these with this front replays
pub record IsRefuted {A : Type 0} (values : Values A) (group : ℕ → List Item) (lim : ℕ → ℕ) (ts front : List ℕ) : Type 0 where
  pub none : (order rest : List ℕ) → IsOrderOf (waits lim ts) ts order → order ≡ front ++ rest → Plays values (flat_map group order) → ⊥

-- no position below this one can be next
abbrev pub IsPast : {A : Type 0} → Values A → (ℕ → List Item) → (ℕ → ℕ) → List ℕ → List ℕ → ℕ → Type 0
IsPast values group lim ts stack next = (j : ℕ) → j < next → IsRefuted values group lim ts (placed ts stack ++ at ts j ∷ [])

-- at each level, all positions below the one taken there have been refuted
abbrev pub IsTried : {A : Type 0} → Values A → (ℕ → List Item) → (ℕ → ℕ) → List ℕ → List ℕ → ℕ → Type 0
IsTried values group lim ts [] next = IsPast values group lim ts [] next
IsTried values group lim ts (c ∷ below) next = IsPast values group lim ts (c ∷ below) next × IsTried values group lim ts below c

-- every group of these can be replayed
abbrev pub AreSound : List Kind → (ℕ → List Item) → List ℕ → Type 0
AreSound kinds group ts = (j : ℕ) → j < length ts → list_all (is_sound kinds) (group (at ts j)) ≡ true

-- none of these has to be placed before itself, nor before an earlier one
abbrev pub AreInTurn : (ℕ → ℕ) → List ℕ → Type 0
AreInTurn lim ts = (j : ℕ) → j < length ts → lim (at ts j) ≤ j

-- an order that replays; it is the transactions' own order if that replays
pub record IsFoundOrder {A : Type 0} (values : Values A) (group : ℕ → List Item) (lim : ℕ → ℕ) (ts order : List ℕ) : Type 0 where
  pub order_is : IsOrderOf (waits lim ts) ts order
  pub plays : Plays values (flat_map group order)
  pub same_first : IsOrderOf (waits lim ts) ts ts → Plays values (flat_map group ts) → order ≡ ts

-- a search's result: positions, the last first, whose order replays; or no order does
abbrev pub IsFound : {A : Type 0} → Values A → (ℕ → List Item) → (ℕ → ℕ) → List ℕ → Option (List ℕ) → Type 0
IsFound values group lim ts (Some stack) = IsFoundOrder values group lim ts (placed ts stack)
IsFound values group lim ts None = (order : List ℕ) → IsOrderOf (waits lim ts) ts order → Plays values (flat_map group order) → ⊥
