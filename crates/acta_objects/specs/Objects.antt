-- The effects and returns of operations. Registers and counters are whole numbers; sets are finite sets of whole
-- numbers, as ascending lists.
use Rattle.std.specs.Prelude.{Bool, true, false, List, [], ℤ, pos, ◌+ℤ◌, length, not, ⊤, fold, scan, FitsSigned}
use Rattle.std.specs.Int.{w64}
use Rattle.std.specs.Ordering.{int_eq, int_cmp}
use Rattle.std.specs.BTreeSet.{insert_key}
use Rattle.std.specs.Set.{remove_key, is_member}
use Rattle.acta_table.specs.declared.model.Kind.{Kind}
use Rattle.acta_table.specs.declared.model.Kind.TheVariants.{Register as register_kind, Counter as counter_kind, Elements as elements_kind}
use Rattle.acta_table.specs.declared.event.Op.{Op}
use Rattle.acta_table.specs.declared.event.Op.TheVariants.{Read, Write, Get, Add, Insert, Remove, Has, Size}
use Rattle.acta_table.specs.declared.event.Ret.{Ret}
use Rattle.acta_table.specs.declared.event.Ret.TheVariants.{Done, Value, Flag}
use Rattle.acta_objects.specs.declared.state.ObjectState.{ObjectState}
use Rattle.acta_objects.specs.declared.state.ObjectState.TheVariants.{Register, Counter, Elements}

-- whether the operation belongs to registers
abbrev pub is_register_op : Op → Bool
is_register_op Read = true
is_register_op (Write v) = true
is_register_op _ = false

-- whether the operation belongs to counters
abbrev pub is_counter_op : Op → Bool
is_counter_op Get = true
is_counter_op (Add n) = true
is_counter_op _ = false

-- whether the operation belongs to sets
abbrev pub is_set_op : Op → Bool
is_set_op (Insert x) = true
is_set_op (Remove x) = true
is_set_op (Has x) = true
is_set_op Size = true
is_set_op _ = false

-- whether the operation belongs to the kind
abbrev pub suits : Kind → Op → Bool
suits (register_kind v) op = is_register_op op
suits (counter_kind v) op = is_counter_op op
suits elements_kind op = is_set_op op

-- a register after an operation
abbrev pub register_step : ℤ → Op → ℤ
register_step v (Write w) = w
register_step v _ = v

-- its return
abbrev pub register_return : ℤ → Op → Ret
register_return v Read = Value v
register_return v _ = Done

-- a counter after an operation
abbrev pub counter_step : ℤ → Op → ℤ
counter_step v (Add n) = v +ℤ n
counter_step v _ = v

-- its return
abbrev pub counter_return : ℤ → Op → Ret
counter_return v Get = Value v
counter_return v _ = Done

-- a set after an operation
abbrev pub set_step : List ℤ → Op → List ℤ
set_step xs (Insert x) = insert_key int_cmp xs x
set_step xs (Remove x) = remove_key (int_eq x) xs
set_step xs _ = xs

-- its return
abbrev pub set_return : List ℤ → Op → Ret
set_return xs (Insert x) = Flag (not (is_member int_eq xs x))
set_return xs (Remove x) = Flag (is_member int_eq xs x)
set_return xs (Has x) = Flag (is_member int_eq xs x)
set_return xs Size = Value (pos (length xs))
set_return xs _ = Done

-- the initial value of an object
abbrev pub first_state : {A : Type 0} → Kind → ObjectState A
first_state (register_kind v) = Register v
first_state (counter_kind v) = Counter v
first_state elements_kind = Elements []

-- the value after an operation
abbrev pub step : {A : Type 0} → ObjectState A → Op → ObjectState A
step (Register v) op = Register (register_step v op)
step (Counter v) op = Counter (counter_step v op)
step (Elements xs) op = Elements (set_step xs op)

-- its return
abbrev pub returned : {A : Type 0} → ObjectState A → Op → Ret
returned (Register v) op = register_return v op
returned (Counter v) op = counter_return v op
returned (Elements xs) op = set_return xs op

-- whether an operation on a set allocates: it inserts an absent element
abbrev pub set_takes_memory : List ℤ → Op → Bool
set_takes_memory xs (Insert x) = not (is_member int_eq xs x)
set_takes_memory xs _ = false

-- whether an operation allocates, and so may fail
abbrev pub takes_memory : {A : Type 0} → ObjectState A → Op → Bool
takes_memory (Elements xs) op = set_takes_memory xs op
takes_memory _ op = false

-- whether the value is a set
abbrev pub is_set : {A : Type 0} → ObjectState A → Bool
is_set (Elements xs) = true
is_set _ = false

-- the value after operations, in order
abbrev pub state_after : {A : Type 0} → ObjectState A → List Op → ObjectState A
state_after s ops = fold step s ops

-- their returns, in order
abbrev pub returns_of : {A : Type 0} → ObjectState A → List Op → List Ret
returns_of s ops = scan step returned s ops

-- a counter stays within 64 bits at this operation
abbrev pub StaysWithin : {A : Type 0} → ObjectState A → Op → Type 0
StaysWithin (Counter v) op = FitsSigned w64 (counter_step v op)
StaysWithin _ op = ⊤
