-- Values of objects by replay, the returns due, and which operations conflict.
use Rattle.std.specs.Prelude.{ℕ, Bool, ◌&&◌, ◌==◌, List, filter, filter_map, if◌then◌else◌, Option, Some, None, option_map}
use Rattle.acta_table.specs.declared.event.Op.{Op}
use Rattle.acta_table.specs.declared.event.Ret.{Ret}
use Rattle.acta_table.specs.declared.event.Kept.{Kept}
use Rattle.acta_table.specs.declared.model.Kind.{Kind}
use Rattle.acta_table.specs.declared.model.Parts.{Parts}
use Rattle.acta_table.specs.Classes.{kind_at}
use Rattle.acta_objects.specs.declared.state.ObjectState.{ObjectState}
use Rattle.acta_objects.specs.Objects.{first_state, state_after, returned, suits}
use Rattle.acta_objects.specs.Conflicts.{conflict_on}
use Rattle.acta_values.specs.Conflicts.{is_well_formed}
use Rattle.acta_axioms.specs.Operations.{Operation, view_set, conflict_set}

-- the operation itself, if it is on this object and belongs to its kind
abbrev pub asked_of : ℕ → Kind → Operation → Option Op
asked_of object kind o = if (o.object == object) && suits kind o.op then Some o.op else None

-- the value of an object of this kind: its initial value after the operations on it that are not aborted, in order
abbrev pub value : {A : Type 0} → Parts A → List (Kept A) → ℕ → Kind → ObjectState A
value m h object kind =
    state_after (first_state kind) (filter_map (asked_of object kind) (view_set m h))

-- the return due for an operation
abbrev pub return_due : {A : Type 0} → Parts A → List (Kept A) → ℕ → Op → Option Ret
return_due m h object op =
    option_map (λ kind. returned (value m h object kind) op) (kind_at m object)

-- whether two operations on an object conflict; an ill-formed operation conflicts with none
abbrev pub do_conflict : {A : Type 0} → Parts A → ℕ → Op → Op → Bool
do_conflict m object p q =
    is_well_formed m object p && (is_well_formed m object q && conflict_on m object p q)

-- the operations of t's conflict set that conflict with an operation on this object
abbrev pub conflicting : {A : Type 0} → Parts A → List (Kept A) → ℕ → ℕ → Op → List Operation
conflicting m h t object op =
    filter (λ o. (o.object == object) && do_conflict m object o.op op) (conflict_set m h t)
