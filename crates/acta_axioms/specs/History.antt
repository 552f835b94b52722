-- A history as a list of places: the start and end of each transaction, its class and its ancestors. Every notion is
-- defined on any list, legal or not. Applied to `p.before` it describes the state before place p, applied to the first
-- n items the state after place n, and applied to a whole history its final state.
use Rattle.std.specs.Prelude.{ℕ, ◌+◌, Bool, false, ◌&&◌, not, ◌==◌, min, List, [], ◌∷◌, ◌++◌, length, find, if◌then◌else◌, Option, Some, None, option_map, is_some}
use Rattle.std.specs.Option.{option_map_or, option_and_then}
use Rattle.acta_table.specs.declared.event.Event.{Event}
use Rattle.acta_table.specs.declared.event.Event.TheVariants.{Spawn, Join, Commit, Abort}
use Rattle.acta_table.specs.declared.event.Kept.{Kept}
use Rattle.acta_table.specs.declared.event.TxnId.{TxnId}
use Rattle.acta_table.specs.declared.model.Class.{Class}
use Rattle.acta_table.specs.declared.model.Parts.{Parts}
use Rattle.acta_table.specs.Ancestors.{ancestors_from}
use Rattle.acta_table.specs.Events.{started, class_named}
use Rattle.acta_table.specs.Classes.{class_at}
use Rattle.acta_axioms.specs.declared.course.Course.{Course}

-- a place of a history: its item, and all items before it
pub record Place (A : Type 0) : Type 0 where
  pub before : List (Kept A)
  pub kept : Kept A

-- the number of a place, from 1
abbrev pub number : {A : Type 0} → Place A → ℕ
number p = length p.before + 1

-- the places of items that follow others
abbrev pub places_after : {A : Type 0} → List (Kept A) → List (Kept A) → List (Place A)
places_after before [] = []
places_after before (k ∷ ks) =
    record { before = before; kept = k } ∷ places_after (before ++ k ∷ []) ks

-- the places of a history, in order
abbrev pub places : {A : Type 0} → List (Kept A) → List (Place A)
places h = places_after [] h

-- the first place with an event that passes the test
abbrev pub first : {A : Type 0} → (Event A → Bool) → List (Kept A) → Option (Place A)
first test h = find (λ p. test p.kept.event) (places h)

-- whether the event starts t
abbrev pub starts : {A : Type 0} → ℕ → Event A → Bool
starts t e = option_map_or (λ u. u == t) (started e) false

-- whether the event is a commit of t
abbrev pub commits : {A : Type 0} → ℕ → Event A → Bool
commits t (Commit u) = u.0 == t
commits t _ = false

-- whether the event is an abort of t
abbrev pub aborts : {A : Type 0} → ℕ → Event A → Bool
aborts t (Abort u) = u.0 == t
aborts t _ = false

-- whether by the event t joins another transaction
abbrev pub joins : {A : Type 0} → ℕ → Event A → Bool
joins t (Join u v) = u.0 == t
joins t _ = false

-- the course of t in a history: the first places of its start, commit, abort and join
abbrev pub course : {A : Type 0} → List (Kept A) → ℕ → Course
course h t = record {
  start = option_map number (first (starts t) h);
  commit = option_map number (first (commits t) h);
  abort = option_map number (first (aborts t) h);
  join = option_map number (first (joins t) h);
}

-- the smaller of two places, or the only one
abbrev pub least : Option ℕ → Option ℕ → Option ℕ
least None n = n
least (Some m) n = Some (option_map_or (min m) n m)

-- the place where the transaction first ended, in any way
abbrev pub end : Course → Option ℕ
end c = least c.commit (least c.abort c.join)

-- whether t has started
abbrev pub has_begun : {A : Type 0} → List (Kept A) → ℕ → Bool
has_begun h t = is_some (course h t).start

-- whether t has ended, even if it never started
abbrev pub has_ended : {A : Type 0} → List (Kept A) → ℕ → Bool
has_ended h t = is_some (end (course h t))

-- whether t has started and not ended
abbrev pub is_in_progress : {A : Type 0} → List (Kept A) → ℕ → Bool
is_in_progress h t = has_begun h t && not (has_ended h t)

-- the number of the class named by t's start
abbrev pub class_number : {A : Type 0} → List (Kept A) → ℕ → Option ℕ
class_number h t = option_and_then (λ p. class_named p.kept.event) (first (starts t) h)

-- the class of t, if it is in the model
abbrev pub class_of : {A : Type 0} → Parts A → List (Kept A) → ℕ → Option (Class A)
class_of m h t = option_and_then (class_at m) (class_number h t)

-- whether t has a class in the model that passes the test
abbrev pub has_class : {A : Type 0} → (Class A → Bool) → Parts A → List (Kept A) → ℕ → Bool
has_class test m h t = option_map_or test (class_of m h t) false

-- the transaction that spawns by the event, if it had begun itself
abbrev pub spawner : {A : Type 0} → List (Kept A) → Event A → Option TxnId
spawner before (Spawn t c class) = if has_begun before t.0 then Some t else None
spawner before _ = None

-- the parent of t: the transaction that spawned it, if it started by a spawn
abbrev pub parent_of : {A : Type 0} → List (Kept A) → ℕ → Option TxnId
parent_of h t = option_and_then (λ p. spawner p.before p.kept.event) (first (starts t) h)

-- the ancestors of t: its parent, the parent's parent, and so on; there are fewer generations than items
abbrev pub ancestors : {A : Type 0} → List (Kept A) → ℕ → List TxnId
ancestors h t = ancestors_from (length h) (parent_of h) (parent_of h t)
