-- Breaks, and when they hold.
use Rattle.std.specs.Prelude.{ℕ, ◌-◌, Bool, true, false, ◌||◌, ◌==◌, nat_le, length, slice_get, Option}
use Rattle.std.specs.List.{list_any}
use Rattle.std.specs.Option.{option_map_or}
use Rattle.acta_table.specs.declared.event.Event.{Event}
use Rattle.acta_table.specs.declared.event.Event.TheVariants as does
use Rattle.acta_table.specs.declared.event.EventKind.{EventKind}
use Rattle.acta_table.specs.declared.event.EventKind.TheVariants.{Begin, Spawn, Split, Join, Delegate}
use Rattle.acta_table.specs.declared.event.EventKind.TheVariants.{Form, Operate, Commit, Abort, Permit}
use Rattle.acta_table.specs.Events.{kind_of, named}
use Rattle.acta_table.specs.Numbered.{first_number}
use Rattle.acta_axioms.specs.History.{commits, aborts, joins}
use Rattle.acta_machine.specs.Table.{State, debts_in}
use Rattle.acta_debug.specs.declared.breaks.Break.{Break}
use Rattle.acta_debug.specs.declared.breaks.Break.TheVariants.{Kind, Touches, Object, OwedAtLeast, Ended}
use Rattle.acta_debug.specs.Histories.{state_at}
use Rattle.acta_debug.specs.Sessions.{Session}

-- whether two kinds of event are the same
abbrev pub is_same_kind : EventKind → EventKind → Bool
is_same_kind Begin Begin = true
is_same_kind Spawn Spawn = true
is_same_kind Split Split = true
is_same_kind Join Join = true
is_same_kind Delegate Delegate = true
is_same_kind Form Form = true
is_same_kind Operate Operate = true
is_same_kind Commit Commit = true
is_same_kind Abort Abort = true
is_same_kind Permit Permit = true
is_same_kind _ _ = false

-- whether the event names t
abbrev pub names : {A : Type 0} → ℕ → Event A → Bool
names t e = list_any (λ u. u == t) (named e)

-- whether the event is an operation on the object
abbrev pub is_on : {A : Type 0} → ℕ → Event A → Bool
is_on ob (does.Operate t o op) = o.0 == ob
is_on ob _ = false

-- whether t commits, aborts or joins another by the event
abbrev pub ends : {A : Type 0} → ℕ → Event A → Bool
ends t e = commits t e || (aborts t e || joins t e)

-- whether the break holds for an event and the machine after it
abbrev pub holds_of : {A : Type 0} → State A → Event A → Break → Bool
holds_of state e (Kind kind) = is_same_kind (kind_of e) kind
holds_of state e (Touches t) = names t.0 e
holds_of state e (Object ob) = is_on ob.0 e
holds_of state e (OwedAtLeast n) = nat_le n (length (debts_in state))
holds_of state e (Ended t) = ends t.0 e

-- whether the break holds at place n
abbrev pub holds_at : {A : Type 0} → Session A → ℕ → Break → Bool
holds_at s n b =
    option_map_or (λ k. holds_of (state_at s.model s.history n) k.event b) (slice_get s.history (n - 1)) false

-- the lowest number of a break that holds at place n
abbrev pub break_at : {A : Type 0} → Session A → ℕ → Option ℕ
break_at s n = first_number (holds_at s n) s.breaks
