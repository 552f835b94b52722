-- The record that a walk keeps of each transaction, in a table by transaction number.
use Rattle.std.specs.Prelude.{ℕ, leb, Bool, ◌||◌, ◌==◌, List, get_or, if◌then◌else◌, Option, Some, None, option_map, is_some, false}
use Rattle.std.specs.Option.{option_map_or, option_and_then}
use Rattle.acta_table.specs.declared.event.ClassId.{ClassId}
use Rattle.acta_table.specs.declared.event.Event.{Event}
use Rattle.acta_table.specs.declared.event.Event.TheVariants.{Begin, Spawn, Split, Join, Commit, Abort, Permit}
use Rattle.acta_table.specs.declared.event.Kept.{Kept}
use Rattle.acta_table.specs.declared.event.TxnId.{TxnId}
use Rattle.acta_table.specs.declared.model.Class.{Class}
use Rattle.acta_table.specs.declared.model.Parts.{Parts}
use Rattle.acta_table.specs.Classes.{class_at, has_heir}
use Rattle.acta_axioms.specs.declared.txn_record.TxnRecord.{TxnRecord}
use Rattle.acta_axioms.specs.History.{course, end, class_number, parent_of}
use Rattle.acta_axioms.specs.Operations.{heir}

-- the record of a transaction that no item names
abbrev pub unbegun : TxnRecord
unbegun = record {
  course = record { start = None; commit = None; abort = None; join = None };
  class = None;
  parent = None;
}

-- the class with this number, if there is one
abbrev pub class_id : Option ℕ → Option ClassId
class_id class = option_map (λ n. record { 0 = n }) class

-- the record of t in a history: its course, the class it started with, and its parent
abbrev pub txn_record : {A : Type 0} → List (Kept A) → ℕ → TxnRecord
txn_record h t = record {
  course = course h t;
  class = class_id (class_number h t);
  parent = parent_of h t;
}

-- whether t has begun according to the table; transactions past its end have not
abbrev pub begun_in : List TxnRecord → ℕ → Bool
begun_in lines t = is_some (get_or lines t unbegun).course.start

-- whether t has ended according to the table
abbrev pub ended_in : List TxnRecord → ℕ → Bool
ended_in lines t = is_some (end (get_or lines t unbegun).course)

-- whether the event is a permit by or for a transaction that has ended
abbrev pub is_late : {A : Type 0} → (ℕ → Bool) → Event A → Bool
is_late ended (Permit t u ob) = ended t.0 || ended u.0
is_late ended _ = false

-- the earlier place, or this one if there is none
abbrev pub or_at : ℕ → Option ℕ → Option ℕ
or_at place None = Some place
or_at place (Some first) = Some first

-- the record of a transaction that starts at this place, unless it has started before
abbrev pub started : ℕ → ClassId → Option TxnId → TxnRecord → TxnRecord
started place class parent line =
    if is_some line.course.start
    then line
    else record {
      course = record line.course { start = Some place };
      class = Some class;
      parent = parent;
    }

-- the record of t after the event at this place, given which transactions have begun before
abbrev pub further : {A : Type 0} → ℕ → (ℕ → Bool) → Event A → ℕ → TxnRecord → TxnRecord
further place begun (Begin s class) t line = if s.0 == t then started place class None line else line
further place begun (Spawn v s class) t line =
    if s.0 == t then started place class (if begun v.0 then Some v else None) line else line
further place begun (Split v s class ops) t line =
    if s.0 == t then started place class None line else line
further place begun (Join s u) t line =
    if s.0 == t then record line { course = record line.course { join = or_at place line.course.join } } else line
further place begun (Commit s) t line =
    if s.0 == t then record line { course = record line.course { commit = or_at place line.course.commit } } else line
further place begun (Abort s) t line =
    if s.0 == t then record line { course = record line.course { abort = or_at place line.course.abort } } else line
further place begun _ t line = line

-- the class of the record, if it is in the model
abbrev pub class_by : {A : Type 0} → Parts A → TxnRecord → Option (Class A)
class_by m line = option_and_then (λ class. class_at m class.0) line.class

-- the heir of the record's transaction: its parent, if its class commits to parents
abbrev pub heir_of_line : {A : Type 0} → Parts A → TxnRecord → Option TxnId
heir_of_line m line =
    if option_map_or (λ k. has_heir k.at_commit) (class_by m line) false then line.parent else None

-- the heir of the transaction that commits by an event after these items
abbrev pub heir_by : {A : Type 0} → Parts A → List (Kept A) → Event A → Option TxnId
heir_by m before (Commit t) = heir m before t.0
heir_by m before _ = None

-- the same, according to a table of records
abbrev pub heir_in : {A : Type 0} → Parts A → List TxnRecord → Event A → Option TxnId
heir_in m lines (Commit t) = heir_of_line m (get_or lines t.0 unbegun)
heir_in m lines _ = None

-- the record after the first n places, except for ends
abbrev pub before_place : ℕ → TxnRecord → TxnRecord
before_place n line = if option_map_or (λ start. leb start n) line.course.start false then line else unbegun

-- the heir of the transaction that commits by an event after the first n places, given the table for all places
abbrev pub heir_before : {A : Type 0} → Parts A → ℕ → List TxnRecord → Event A → Option TxnId
heir_before m n lines (Commit t) = heir_of_line m (before_place n (get_or lines t.0 unbegun))
heir_before m n lines _ = None
