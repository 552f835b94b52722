-- Conflict of two operations on an object: its definition, and the table of conflicting pairs.
use Rattle.std.specs.Prelude.{◌≡◌, ℕ, Bool, true, false, not, List, ℤ, pos, ⊤}
use Rattle.std.specs.Ordering.{int_eq, int_cmp}
use Rattle.std.specs.Option.{option_map_or}
use Rattle.std.specs.List.Sorted.{IsStrictlySortedBy}
use Rattle.acta_table.specs.declared.model.Kind.{Kind}
use Rattle.acta_table.specs.declared.model.Kind.TheVariants.{Register as register_kind, Counter as counter_kind, Elements as elements_kind}
use Rattle.acta_table.specs.declared.model.Parts.{Parts}
use Rattle.acta_table.specs.declared.event.Op.{Op}
use Rattle.acta_table.specs.declared.event.Op.TheVariants.{Read, Write, Get, Add, Insert, Remove, Has, Size}
use Rattle.acta_table.specs.Classes.{kind_at}
use Rattle.acta_objects.specs.Objects.{register_step, register_return, counter_step, counter_return, set_step, set_return}

-- from this state both orders end in equivalent states and give each operation the same return
pub record Commutes {S O R : Type 0} (step : S → O → S) (returned : S → O → R)
    (s : S) (p q : O) : Type 0 where
  pub state : step (step s p) q ≡ step (step s q) p
  pub first : returned s p ≡ returned (step s q) p
  pub second : returned (step s p) q ≡ returned s q

-- from some state the two orders differ
pub record Conflict {S O R : Type 0} (IsState : S → Type 0) (step : S → O → S)
    (returned : S → O → R) (p q : O) : Type 0 where
  pub from : S
  pub is_state : IsState from
  pub differs : Commutes step returned from p q → ⊥

-- the states of registers and counters: all whole numbers
abbrev pub IsNumber : ℤ → Type 0
IsNumber v = ⊤

-- the states of sets: all finite sets, as their elements, ascending
abbrev pub IsSet : List ℤ → Type 0
IsSet xs = IsStrictlySortedBy int_cmp xs

-- the definition: two operations on an object of this kind conflict
abbrev pub IsConflict : Kind → Op → Op → Type 0
IsConflict (register_kind v) p q = Conflict IsNumber register_step register_return p q
IsConflict (counter_kind v) p q = Conflict IsNumber counter_step counter_return p q
IsConflict elements_kind p q = Conflict IsSet set_step set_return p q

-- the table for registers
abbrev pub register_conflicts : Op → Op → Bool
register_conflicts Read (Write w) = true
register_conflicts (Write v) Read = true
register_conflicts (Write v) (Write w) = not (int_eq v w)
register_conflicts _ _ = false

-- the table for counters
abbrev pub counter_conflicts : Op → Op → Bool
counter_conflicts Get (Add n) = not (int_eq n (pos 0))
counter_conflicts (Add n) Get = not (int_eq n (pos 0))
counter_conflicts _ _ = false

-- the table for sets
abbrev pub set_conflicts : Op → Op → Bool
set_conflicts (Insert x) (Insert y) = int_eq x y
set_conflicts (Insert x) (Remove y) = int_eq x y
set_conflicts (Insert x) (Has y) = int_eq x y
set_conflicts (Remove x) (Insert y) = int_eq x y
set_conflicts (Remove x) (Remove y) = int_eq x y
set_conflicts (Remove x) (Has y) = int_eq x y
set_conflicts (Has x) (Insert y) = int_eq x y
set_conflicts (Has x) (Remove y) = int_eq x y
set_conflicts Size (Insert y) = true
set_conflicts Size (Remove y) = true
set_conflicts (Insert x) Size = true
set_conflicts (Remove x) Size = true
set_conflicts _ _ = false

-- the table for an object of this kind
abbrev pub conflicts : Kind → Op → Op → Bool
conflicts (register_kind v) p q = register_conflicts p q
conflicts (counter_kind v) p q = counter_conflicts p q
conflicts elements_kind p q = set_conflicts p q

-- whether two operations on the object with this number conflict
abbrev pub conflict_on : {A : Type 0} → Parts A → ℕ → Op → Op → Bool
conflict_on m object p q = option_map_or (λ kind. conflicts kind p q) (kind_at m object) false
