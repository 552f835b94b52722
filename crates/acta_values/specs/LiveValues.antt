-- Current values, and the operations that they are the result of.
use Rattle.std.specs.Prelude.{pos, ⊤, ◌≡◌, ℕ, ◌<◌, ◌≤◌, Bool, true, false, ℤ, List, map, fold, filter_map, length, if◌then◌else◌, Option, Some, None}
use Rattle.std.specs.List.{AllByRecursion, Contains}
use Rattle.std.specs.Ordering.{int_eq}
use Rattle.acta_table.specs.declared.limits.TheConstants.{MOST_EVENTS}
use Rattle.acta_table.specs.declared.model.Kind.{Kind}
use Rattle.acta_table.specs.declared.model.Kind.TheVariants.{Register as register_kind, Counter as counter_kind, Elements as elements_kind}
use Rattle.acta_table.specs.declared.event.Op.{Op}
use Rattle.acta_table.specs.declared.event.Op.TheVariants.{Write, Add, Insert, Remove}
use Rattle.acta_objects.specs.declared.state.ObjectState.{ObjectState}
use Rattle.acta_objects.specs.declared.state.ObjectState.TheVariants.{Register as register_state, Counter as counter_state, Elements as elements_state}
use Rattle.acta_objects.specs.Objects.{counter_step}
use Rattle.acta_objects.specs.Limits.{AmountFits, FirstFits}
use Rattle.acta_values.specs.declared.live_value.LiveValue.{LiveValue}
use Rattle.acta_values.specs.declared.live_value.LiveValue.TheVariants.{Register, Counter, Elements}
use Rattle.acta_values.specs.declared.trail.Numbered.{Numbered}
use Rattle.acta_values.specs.LiveSets.{IsOrdered, trail_at, elements_of}
use Rattle.acta_values.specs.Trails.{AreBelow, IsAscending, last_or}

-- the operations, without their numbers
abbrev pub ops_of : List (Numbered Op) → List Op
ops_of ops = map (λ o. o.item) ops

-- what operation n writes
abbrev pub write_by : ℕ → Op → Option (Numbered ℤ)
write_by n (Write v) = Some (record { number = n; item = v })
write_by n _ = None

abbrev pub written : Numbered Op → Option (Numbered ℤ)
written o = write_by o.number o.item

-- whether operation n inserts or removes x, if it does either
abbrev pub mark_by : ℤ → ℕ → Op → Option (Numbered Bool)
mark_by x n (Insert y) = if int_eq y x then Some (record { number = n; item = true }) else None
mark_by x n (Remove y) = if int_eq y x then Some (record { number = n; item = false }) else None
mark_by x n _ = None

abbrev pub marked : ℤ → Numbered Op → Option (Numbered Bool)
marked x o = mark_by x o.number o.item

-- the value represents the result of these operations on an object of this kind
abbrev pub Shows : {A : Type 0} → Kind → List (Numbered Op) → LiveValue A → Type 0
Shows (register_kind v) ops (Register first writes) = (first ≡ v) × (writes ≡ filter_map written ops)
Shows (counter_kind v) ops (Counter sum) = sum ≡ fold counter_step v (ops_of ops)
Shows elements_kind ops (Elements marks) = (x : ℤ) → trail_at marks x ≡ filter_map (marked x) ops
Shows _ ops _ = ⊥

-- the value of an object of this kind after these operations, by ascending number
pub record IsAfter {A : Type 0} (kind : Kind) (ops : List (Numbered Op)) (value : LiveValue A) : Type 0 where
  pub ascending : IsAscending ops
  pub few : length ops ≤ MOST_EVENTS
  pub first_fits : FirstFits kind
  pub fits : AllByRecursion (λ o. AmountFits o.item) ops
  pub shows : Shows kind ops value

-- an operation with this number may be added: all others have lower numbers, and there is room
pub record HasRoom {A : Type 0} (number : ℕ) (value : LiveValue A) : Type 0 where
  pub kind : Kind
  pub ops : List (Numbered Op)
  pub after : IsAfter kind ops value
  pub below : AreBelow number ops
  pub room : length ops < MOST_EVENTS

-- this operation is one of those that made the value
pub record Counts {A : Type 0} (number : ℕ) (op : Op) (value : LiveValue A) : Type 0 where
  pub kind : Kind
  pub ops : List (Numbered Op)
  pub after : IsAfter kind ops value
  pub there : Contains ops (record { number = number; item = op })

-- what an operation adds to a counter
abbrev pub amount : Op → ℤ
amount (Add n) = n
amount _ = pos 0

-- the value in the form in which the program returns it
abbrev pub state_of : {A : Type 0} → LiveValue A → ObjectState A
state_of (Register first writes) = register_state (last_or first writes)
state_of (Counter sum) = counter_state sum
state_of (Elements marks) = elements_state (elements_of marks)

-- the elements of a set ascend
abbrev pub IsInOrder : {A : Type 0} → LiveValue A → Type 0
IsInOrder (Elements marks) = IsOrdered marks
IsInOrder _ = ⊤
