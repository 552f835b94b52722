-- The operations of a history: holders, fates, and ACTA's sets of them.
use Rattle.std.specs.Prelude.{ℕ, ◌+◌, Bool, true, false, ◌&&◌, ◌||◌, not, ◌==◌, List, drop, take, filter, filter_map, fold, find, count_by, if◌then◌else◌, Option, Some, None, option_map}
use Rattle.std.specs.List.{list_any}
use Rattle.std.specs.Option.{option_map_or}
use Rattle.acta_table.specs.declared.event.Op.{Op}
use Rattle.acta_table.specs.declared.event.Ret.{Ret}
use Rattle.acta_table.specs.declared.event.Event.{Event}
use Rattle.acta_table.specs.declared.event.Event.TheVariants.{Split, Join, Delegate, Operate, Commit, Abort}
use Rattle.acta_table.specs.declared.event.Kept.{Kept}
use Rattle.acta_table.specs.declared.event.TxnId.{TxnId}
use Rattle.acta_table.specs.declared.answer.Fate.{Fate}
use Rattle.acta_table.specs.declared.answer.Fate.TheVariants.{InProgress, Committed, Aborted}
use Rattle.acta_table.specs.declared.model.Parts.{Parts}
use Rattle.acta_table.specs.Classes.{exempts, has_heir}
use Rattle.acta_table.specs.Sets.{is_named}
use Rattle.acta_table.specs.Fates.{is_open, is_aborted}
use Rattle.acta_axioms.specs.History.{Place, number, places, has_class, parent_of, ancestors}
use Rattle.acta_axioms.specs.Permits.{is_permitted}

-- an operation of a history: its number, place, invoker, object and return
pub record Operation : Type 0 where
  pub number : ℕ
  pub place : ℕ
  pub invoker : ℕ
  pub object : ℕ
  pub op : Op
  pub ret : Option Ret

-- whether the event is an operation, well formed or not
abbrev pub is_operate : {A : Type 0} → Event A → Bool
is_operate (Operate t object op) = true
is_operate _ = false

-- operations are numbered from 1: the number of an operation that follows these items
abbrev pub number_after : {A : Type 0} → List (Kept A) → ℕ
number_after before = count_by (λ k. is_operate k.event) before + 1

-- the operation that an event does at a place, if it is an operation
abbrev pub operation_in : {A : Type 0} → Place A → Event A → Option Operation
operation_in p (Operate t object op) = Some (record {
  number = number_after p.before;
  place = number p;
  invoker = t.0;
  object = object.0;
  op = op;
  ret = p.kept.ret;
})
operation_in p _ = None

-- the operation at a place, if its event is one
abbrev pub operation_at : {A : Type 0} → Place A → Option Operation
operation_at p = operation_in p p.kept.event

-- the operations of a history, in order
abbrev pub operations : {A : Type 0} → List (Kept A) → List Operation
operations h = filter_map operation_at (places h)

-- the holder and the fate of an operation
pub record Standing : Type 0 where
  pub holder : ℕ
  pub fate : Fate

-- in progress, held by t
abbrev pub held_by : ℕ → Standing
held_by t = record { holder = t; fate = InProgress }

-- ended, last held by t
abbrev pub ended_by : ℕ → Fate → Standing
ended_by t fate = record { holder = t; fate = fate }

-- the heir of t, which inherits its operations at its commit: its parent, if its class commits to parents and it has
-- one
abbrev pub heir : {A : Type 0} → Parts A → List (Kept A) → ℕ → Option TxnId
heir m before t = if has_class (λ k. has_heir k.at_commit) m before t then parent_of before t else None

-- the standing of operation o, which t holds in progress, after an event that follows these items
abbrev pub followed : {A : Type 0} → Parts A → List (Kept A) → ℕ → ℕ → Event A → Standing
followed m before o t (Split s u class ops) =
    if (s.0 == t) && is_named ops o then held_by u.0 else held_by t
followed m before o t (Join s u) = if s.0 == t then held_by u.0 else held_by t
followed m before o t (Delegate s u ops) =
    if (s.0 == t) && is_named ops o then held_by u.0 else held_by t
followed m before o t (Commit s) =
    if s.0 == t then option_map_or (λ u. held_by u.0) (heir m before t) (ended_by t Committed) else held_by t
followed m before o t (Abort s) = if s.0 == t then ended_by t Aborted else held_by t
followed m before o t _ = held_by t

-- operation o, one place further; a committed or aborted operation does not change
abbrev pub carried : {A : Type 0} → Parts A → ℕ → Standing → Place A → Standing
carried m o s p = if is_open s.fate then followed m p.before o s.holder p.kept.event else s

-- the standing of an operation at the end of the history: its invoker holds it at its own place, and later events are
-- applied in order
abbrev pub standing : {A : Type 0} → Parts A → List (Kept A) → Operation → Standing
standing m h o = fold (carried m o.number) (held_by o.invoker) (drop o.place (places h))

-- the standing of operation o of the history, if there is one
abbrev pub standing_of : {A : Type 0} → Parts A → List (Kept A) → ℕ → Option Standing
standing_of m h o = option_map (standing m h) (find (λ q. q.number == o) (operations h))

-- the holder of operation o after the first n places
abbrev pub holder_at : {A : Type 0} → Parts A → List (Kept A) → ℕ → ℕ → Option ℕ
holder_at m h o n = option_map (λ s. s.holder) (standing_of m (take n h) o)

-- the fate of operation o after the first n places
abbrev pub fate_at : {A : Type 0} → Parts A → List (Kept A) → ℕ → ℕ → Option Fate
fate_at m h o n = option_map (λ s. s.fate) (standing_of m (take n h) o)

-- whether an operation with this holder and fate is in progress and held by t
abbrev pub is_held_by : ℕ → Standing → Bool
is_held_by t s = (s.holder == t) && is_open s.fate

-- the access set of t: the operations in progress that it holds
abbrev pub access_set : {A : Type 0} → Parts A → List (Kept A) → ℕ → List Operation
access_set m h t = filter (λ o. is_held_by t (standing m h o)) (operations h)

-- whether u's operations on the object are exempt from conflicts with t: u is an ancestor of t and t's class exempts
-- ancestors, or u has permitted t to work on the object
abbrev pub is_exempt : {A : Type 0} → Parts A → List (Kept A) → ℕ → ℕ → ℕ → Bool
is_exempt m h t object u =
    (has_class (λ k. exempts k.scope) m h t && list_any (λ a. a.0 == u) (ancestors h t)) || is_permitted h u t object

-- whether an operation on the object, with this standing, is in progress and held by another transaction that is not
-- exempt
abbrev pub is_of_others : {A : Type 0} → Parts A → List (Kept A) → ℕ → ℕ → Standing → Bool
is_of_others m h t object s = is_open s.fate && not (s.holder == t) && not (is_exempt m h t object s.holder)

-- the conflict set of t: the operations in progress that others hold and that are not exempt
abbrev pub conflict_set : {A : Type 0} → Parts A → List (Kept A) → ℕ → List Operation
conflict_set m h t = filter (λ o. is_of_others m h t o.object (standing m h o)) (operations h)

-- whether an operation with this fate is in the view
abbrev pub is_in_view : Standing → Bool
is_in_view s = not (is_aborted s.fate)

-- the view: the operations that are not aborted
abbrev pub view_set : {A : Type 0} → Parts A → List (Kept A) → List Operation
view_set m h = filter (λ o. is_in_view (standing m h o)) (operations h)
