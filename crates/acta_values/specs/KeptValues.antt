-- Current values of objects: each is the value after the operations on its object that are not aborted.
use Rattle.std.specs.Prelude.{◌≡◌, ◌≢◌, ℕ, ◌+◌, ◌<◌, ◌≤◌, ◌&&◌, ◌==◌, List, [], ◌∷◌, map, length, if◌then◌else◌, Option, Some, None, option_map, slice_get}
use Rattle.std.specs.List.{Contains, cons_option}
use Rattle.acta_table.specs.declared.event.Op.{Op}
use Rattle.acta_table.specs.declared.event.ObjId.{ObjId}
use Rattle.acta_table.specs.declared.event.TxnId.{TxnId}
use Rattle.acta_table.specs.declared.limits.TheConstants.{MOST_EVENTS}
use Rattle.acta_table.specs.declared.model.Kind.{Kind}
use Rattle.acta_table.specs.declared.model.Object.{Object}
use Rattle.acta_sets.specs.declared.held_op.HeldOp.{HeldOp}
use Rattle.acta_sets.specs.Chains.{Chained, AreChained}
use Rattle.acta_sets.specs.Operations.{added, is_live}
use Rattle.acta_values.specs.declared.live_value.LiveValue.{LiveValue}
use Rattle.acta_values.specs.declared.trail.Numbered.{Numbered}
use Rattle.acta_values.specs.LiveValues.{IsAfter}
use Rattle.acta_values.specs.Trails.{without}

-- the kinds of objects
abbrev pub kinds_of : {A : Type 0} → List (Object A) → List Kind
kinds_of objects = map (λ o. o.kind) objects

-- the operation, if it is on this object and not aborted; an operation of another kind has no effect and may be
-- included
abbrev pub stays_on : ℕ → HeldOp → Option Op
stays_on object i = if (i.ob.0 == object) && is_live i then Some i.op else None

-- operation n, if `stays_on` keeps it for this object
abbrev pub numbered_on : ℕ → ℕ → HeldOp → Option (Numbered Op)
numbered_on object n i = option_map (λ op. record { number = n; item = op }) (stays_on object i)

-- the operations that count on this object, if the first of all has the number n
abbrev pub numbered_from : ℕ → ℕ → List HeldOp → List (Numbered Op)
numbered_from object n [] = []
numbered_from object n (i ∷ items) = cons_option (numbered_on object n i) (numbered_from object (n + 1) items)

-- the operations that count on this object, with their numbers
abbrev pub numbered_live : List HeldOp → ℕ → List (Numbered Op)
numbered_live items object = numbered_from object 1 items

-- each value is that of its object after the operations that count on it
pub record AreAfter {A : Type 0} (kinds : List Kind) (items : List HeldOp) (values : List (LiveValue A)) : Type 0 where
  pub long : length values ≡ length kinds
  pub few : length items ≤ MOST_EVENTS
  pub each : (k : ℕ) (kind : Kind) (value : LiveValue A) → slice_get kinds k ≡ Some kind → slice_get values k ≡ Some value → IsAfter kind (numbered_live items k) value

-- the values are those after the operations, and the marks are right
pub record IsInOrder {A : Type 0} (kinds : List Kind) (items : List HeldOp) (values : List (LiveValue A)) (chains : Chained) : Type 0 where
  pub after : AreAfter kinds items values
  pub chained : AreChained items chains

-- the values are those after these operations, for objects of some kinds
pub record AreValues {A : Type 0} (items : List HeldOp) (values : List (LiveValue A)) : Type 0 where
  pub kinds : List Kind
  pub after : AreAfter kinds items values

-- an operation with this number may be added: it is the next, and there is room
pub record Takes {A : Type 0} (number : ℕ) (values : List (LiveValue A)) : Type 0 where
  pub kinds : List Kind
  pub items : List HeldOp
  pub after : AreAfter kinds items values
  pub next : number ≡ length items + 1
  pub room : length items < MOST_EVENTS

-- an operation on this object was undone in its value, and the other values are unchanged
pub record IsUndoneAt {A : Type 0} (number object : ℕ) (op : Op) (old new : List (LiveValue A)) : Type 0 where
  pub long : length new ≡ length old
  pub others : (k : ℕ) → k ≢ object → slice_get new k ≡ slice_get old k
  pub taken : (kind : Kind) (ops : List (Numbered Op)) (value left : LiveValue A) → slice_get old object ≡ Some value → slice_get new object ≡ Some left → IsAfter kind ops value
      → Contains ops (record { number = number; item = op }) → IsAfter kind (without number ops) left

-- the operation with this number on this object was added last
pub record CameLast {A : Type 0} (number : ℕ) (ob : ObjId) (op : Op) (values : List (LiveValue A)) : Type 0 where
  pub kinds : List Kind
  pub items : List HeldOp
  pub holder : TxnId
  pub after : AreAfter kinds (added items holder ob op) values
  pub next : number ≡ length items + 1
