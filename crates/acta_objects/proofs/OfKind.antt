-- The values that an object of a kind can have. Operations of other kinds do not change them.
use Rattle.std.proofs.Common.{◌≡◌, false, List, refl, ap}
use Rattle.std.specs.Prelude.{ℤ}
use Rattle.std.proofs.lemmas.Bool.{true≢false}
use Rattle.acta_table.specs.declared.event.Op.{Op}
use Rattle.acta_table.specs.declared.event.Op.TheVariants.{Write, Add, Insert, Remove}
use Rattle.acta_table.specs.declared.model.Kind.{Kind}
use Rattle.acta_table.specs.declared.model.Kind.TheVariants.{Register as register_kind, Counter as counter_kind, Elements as elements_kind}
use Rattle.acta_objects.specs.declared.state.ObjectState.{ObjectState}
use Rattle.acta_objects.specs.declared.state.ObjectState.TheVariants.{Register, Counter, Elements}
use Rattle.acta_objects.specs.Objects.{is_register_op, is_counter_op, is_set_op, suits, first_state, step, register_step, counter_step, set_step}
use Rattle.acta_objects.specs.Conflicts.{IsSet}
use Rattle.acta_objects.specs.inside.Sets.{empty_set, insert_is_set, remove_is_set}

-- the value is one that an object of the kind can have
abbrev pub IsOf : {A : Type 0} → Kind → ObjectState A → Type 0
IsOf (register_kind v) (Register x) = Unit {0}
IsOf (counter_kind v) (Counter x) = Unit {0}
IsOf elements_kind (Elements xs) = IsSet xs
IsOf _ _ = ⊥

set_stays : (xs : List ℤ) (op : Op) → IsSet xs → IsSet (set_step xs op)
set_stays xs (Insert x) s = insert_is_set xs x s
set_stays xs (Remove x) s = remove_is_set xs x s
set_stays xs _ s = s

-- and so is the value after an operation
pub is_of-step : {A : Type 0} (kind : Kind) (s : ObjectState A) (op : Op) → IsOf kind s → IsOf kind (step s op)
is_of-step (register_kind v) (Register x) op ok = tt
is_of-step (register_kind v) (Counter x) op ok = ok
is_of-step (register_kind v) (Elements x) op ok = ok
is_of-step (counter_kind v) (Register x) op ok = ok
is_of-step (counter_kind v) (Counter x) op ok = tt
is_of-step (counter_kind v) (Elements x) op ok = ok
is_of-step elements_kind (Register x) op ok = ok
is_of-step elements_kind (Counter x) op ok = ok
is_of-step elements_kind (Elements xs) op ok = set_stays xs op ok

-- and the first one
pub is_of-first : (A : Type 0) (kind : Kind) → IsOf {A = A} kind (first_state kind)
is_of-first A (register_kind v) = tt
is_of-first A (counter_kind v) = tt
is_of-first A elements_kind = empty_set

-- an operation that is not of the kind changes nothing
idle_register : (v : ℤ) (op : Op) → is_register_op op ≡ false → register_step v op ≡ v
idle_register v (Write w) e = absurd (true≢false e)
idle_register v _ e = refl

idle_counter : (v : ℤ) (op : Op) → is_counter_op op ≡ false → counter_step v op ≡ v
idle_counter v (Add n) e = absurd (true≢false e)
idle_counter v _ e = refl

idle_set : (xs : List ℤ) (op : Op) → is_set_op op ≡ false → set_step xs op ≡ xs
idle_set xs (Insert x) e = absurd (true≢false e)
idle_set xs (Remove x) e = absurd (true≢false e)
idle_set xs _ e = refl

pub idle : {A : Type 0} (kind : Kind) (s : ObjectState A) (op : Op) → IsOf kind s → suits kind op ≡ false → step s op ≡ s
idle (register_kind v) (Register x) op ok e = ap Register (idle_register x op e)
idle (register_kind v) (Counter x) op ok e = absurd ok
idle (register_kind v) (Elements x) op ok e = absurd ok
idle (counter_kind v) (Register x) op ok e = absurd ok
idle (counter_kind v) (Counter x) op ok e = ap Counter (idle_counter x op e)
idle (counter_kind v) (Elements x) op ok e = absurd ok
idle elements_kind (Register x) op ok e = absurd ok
idle elements_kind (Counter x) op ok e = absurd ok
idle elements_kind (Elements xs) op ok e = ap Elements (idle_set xs op e)
