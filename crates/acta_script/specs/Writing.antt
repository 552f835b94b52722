-- The lines of events and of kept items.
use Rattle.std.specs.Prelude.{ℕ, List, [], ◌∷◌, ◌++◌, map, codes, decimal, slice_get, ℤ}
use Rattle.std.specs.Fmt.{signed_decimal}
use Rattle.std.specs.List.{join_with_byte}
use Rattle.std.specs.Option.{option_map_or}
use Rattle.acta_table.specs.declared.answer.Status.{Status}
use Rattle.acta_table.specs.declared.answer.Status.TheVariants.{NotBegun, InProgress, Committed, Aborted, Joined}
use Rattle.acta_table.specs.declared.event.ClassId.{ClassId}
use Rattle.acta_table.specs.declared.event.Event.{Event}
use Rattle.acta_table.specs.declared.event.Event.TheVariants.{Begin, Spawn, Split, Join, Delegate, Form, Operate, Commit, Abort, Permit}
use Rattle.acta_table.specs.declared.event.EventKind.TheVariants as event_kind
use Rattle.acta_table.specs.declared.event.Kept.{Kept}
use Rattle.acta_table.specs.declared.event.ObjId.{ObjId}
use Rattle.acta_table.specs.declared.event.Op.{Op}
use Rattle.acta_table.specs.declared.event.Op.TheVariants.{Read, Write, Get, Add, Insert, Remove, Has, Size}
use Rattle.acta_table.specs.declared.event.OpNo.{OpNo}
use Rattle.acta_table.specs.declared.event.Ret.{Ret}
use Rattle.acta_table.specs.declared.event.Ret.TheVariants.{Done, Value, Flag}
use Rattle.acta_table.specs.declared.event.TxnId.{TxnId}
use Rattle.acta_table.specs.declared.model.Parts.{Parts}
use Rattle.acta_table.specs.Classes.{class_at}
use Rattle.acta_table.specs.Dependencies.{word_of}
use Rattle.acta_table.specs.Sets.{numbers_of}
use Rattle.acta_words.specs.Text.{line_of}
use Rattle.acta_script.specs.declared.op_kind.OpKind.TheVariants as op_kind
use Rattle.acta_script.specs.Words.{event_word, op_word, done_word, flag_word}

-- the word of a transaction
abbrev pub txn_word : TxnId → List ℕ
txn_word t = decimal t.0

-- the names of a class and of an object; empty if they are not in the model
abbrev pub class_word : {A : Type 0} → Parts A → ClassId → List ℕ
class_word m class = option_map_or (λ c. c.name) (class_at m class.0) []

abbrev pub object_word : {A : Type 0} → Parts A → ObjId → List ℕ
object_word m object = option_map_or (λ o. o.name) (slice_get m.objects object.0) []

-- the word of a set of operations: a minus, or their numbers, ascending, joined by commas
abbrev pub operations_word : List OpNo → List ℕ
operations_word [] = codes "-"
operations_word (o ∷ os) = join_with_byte 44 (map decimal (numbers_of (o ∷ os)))

-- the words of an operation
abbrev pub operation_words : Op → List (List ℕ)
operation_words Read = op_word op_kind.Read ∷ []
operation_words (Write v) = op_word op_kind.Write ∷ signed_decimal v ∷ []
operation_words Get = op_word op_kind.Get ∷ []
operation_words (Add n) = op_word op_kind.Add ∷ signed_decimal n ∷ []
operation_words (Insert x) = op_word op_kind.Insert ∷ signed_decimal x ∷ []
operation_words (Remove x) = op_word op_kind.Remove ∷ signed_decimal x ∷ []
operation_words (Has x) = op_word op_kind.Has ∷ signed_decimal x ∷ []
operation_words Size = op_word op_kind.Size ∷ []

-- the words of an event
abbrev pub event_words : {A : Type 0} → Parts A → Event A → List (List ℕ)
event_words m (Begin t class) = event_word event_kind.Begin ∷ txn_word t ∷ class_word m class ∷ []
event_words m (Spawn t c class) = event_word event_kind.Spawn ∷ txn_word t ∷ txn_word c ∷ class_word m class ∷ []
event_words m (Split t u class ops) =
    event_word event_kind.Split ∷ txn_word t ∷ txn_word u ∷ class_word m class ∷ operations_word ops ∷ []
event_words m (Join t u) = event_word event_kind.Join ∷ txn_word t ∷ txn_word u ∷ []
event_words m (Delegate t u ops) = event_word event_kind.Delegate ∷ txn_word t ∷ txn_word u ∷ operations_word ops ∷ []
event_words m (Form kind j i) = event_word event_kind.Form ∷ word_of kind ∷ txn_word j ∷ txn_word i ∷ []
event_words m (Operate t ob op) = event_word event_kind.Operate ∷ txn_word t ∷ object_word m ob ∷ operation_words op
event_words m (Commit t) = event_word event_kind.Commit ∷ txn_word t ∷ []
event_words m (Abort t) = event_word event_kind.Abort ∷ txn_word t ∷ []
event_words m (Permit t u ob) = event_word event_kind.Permit ∷ txn_word t ∷ txn_word u ∷ object_word m ob ∷ []

-- the word of a return
abbrev pub return_word : Ret → List ℕ
return_word Done = done_word
return_word (Value v) = signed_decimal v
return_word (Flag b) = flag_word b

-- the elements of a set, ascending, between braces
abbrev pub elements_word : List ℤ → List ℕ
elements_word xs = codes "{" ++ (join_with_byte 44 (map signed_decimal xs) ++ codes "}")

-- the word of a status
abbrev pub status_word : Status → List ℕ
status_word NotBegun = codes "notbegun"
status_word InProgress = codes "inprogress"
status_word Committed = codes "committed"
status_word Aborted = codes "aborted"
status_word Joined = codes "joined"

-- the words of a kept item
abbrev pub kept_words : {A : Type 0} → Parts A → Kept A → List (List ℕ)
kept_words m kept = event_words m kept.event ++ option_map_or (λ ret. codes "=" ∷ return_word ret ∷ []) kept.ret []

-- the line of an event, and of a kept item
unfoldable pub event_line : {A : Type 0} → Parts A → Event A → List ℕ
event_line m event = line_of (event_words m event)

unfoldable pub kept_line : {A : Type 0} → Parts A → Kept A → List ℕ
kept_line m kept = line_of (kept_words m kept)
