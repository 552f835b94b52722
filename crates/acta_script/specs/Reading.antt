-- The event, kept item, seated event or program step of a line, or its fault. Unknown words are checked first, then the
-- number of words, then numbers, then names, so that the fault is the lowest.
use Rattle.std.specs.Prelude.{◌≡◌, ℕ, Bool, true, false, ◌==◌, nat_le, List, [], ◌∷◌, if◌then◌else◌, codes, find, Option, Some, None, ok_or, option_map, Result, Ok, Err, ℤ, ⊤}
use Rattle.std.specs.List.{list_any, slice_split, before_first, after_first, position_from}
use Rattle.std.specs.Str.{bytes_eq}
use Rattle.acta_table.specs.declared.dep.Dep.{Dep}
use Rattle.acta_table.specs.declared.event.ClassId.{ClassId}
use Rattle.acta_table.specs.declared.event.Event.{Event}
use Rattle.acta_table.specs.declared.event.Event.TheVariants.{Begin, Spawn, Split, Join, Delegate, Form, Operate, Commit, Abort, Permit}
use Rattle.acta_table.specs.declared.event.EventKind.{EventKind}
use Rattle.acta_table.specs.declared.event.EventKind.TheVariants.{Begin as begin_kind, Spawn as spawn_kind, Split as split_kind, Join as join_kind, Delegate as delegate_kind, Form as form_kind, Operate as operate_kind, Commit as commit_kind, Abort as abort_kind, Permit as permit_kind}
use Rattle.acta_table.specs.declared.event.Kept.{Kept}
use Rattle.acta_table.specs.declared.event.ObjId.{ObjId}
use Rattle.acta_table.specs.declared.event.Op.{Op}
use Rattle.acta_table.specs.declared.event.Op.TheVariants.{Read, Write, Get, Add, Insert, Remove, Has, Size}
use Rattle.acta_table.specs.declared.event.OpNo.{OpNo}
use Rattle.acta_table.specs.declared.event.Ret.{Ret}
use Rattle.acta_table.specs.declared.event.Ret.TheVariants.{Done, Value, Flag}
use Rattle.acta_table.specs.declared.event.TxnId.{TxnId}
use Rattle.acta_table.specs.declared.model.Parts.{Parts}
use Rattle.acta_table.specs.Dependencies.{all_kinds, word_of}
use Rattle.acta_words.specs.Numerals.{read_natural, read_integer}
use Rattle.acta_table.specs.Sets.{each_once, numbered}
use Rattle.acta_words.specs.Text.{words_of, each_read}
use Rattle.acta_script.specs.declared.fault.LineError.{LineError}
use Rattle.acta_script.specs.declared.fault.LineError.TheVariants as error
use Rattle.acta_script.specs.declared.fault.LineFault.{LineFault}
use Rattle.acta_script.specs.declared.fault.LineFault.TheVariants.{Empty, Word, Arity, Number, Name}
use Rattle.acta_script.specs.declared.op_kind.OpKind.{OpKind}
use Rattle.acta_script.specs.declared.op_kind.OpKind.TheVariants as op_kind
use Rattle.acta_script.specs.declared.programs.ProgramLine.{ProgramLine}
use Rattle.acta_script.specs.declared.seated.Seated.{Seated}
use Rattle.acta_script.specs.Words.{event_word, op_word, done_word, flag_word}

abbrev pub fault_number : LineFault → ℕ
fault_number Empty = 1
fault_number Word = 2
fault_number Arity = 3
fault_number Number = 4
fault_number Name = 5

-- the result of f on the value, or the fault
infixl 10 ◌>>=◌
abbrev pub ◌>>=◌ : {X Y : Type 0} → Result X LineFault → (X → Result Y LineFault) → Result Y LineFault
(Ok x) >>= f = f x
(Err fault) >>= f = Err fault

-- T, a transaction: digits with a value of 16 bits
abbrev pub parse_txn : List ℕ → Result TxnId LineFault
parse_txn word = ok_or (option_map (λ n. record { 0 = n }) (read_natural 0xffff word)) Number

-- INT: digits, with an optional minus, with a value of 32 bits
abbrev pub parse_integer : List ℕ → Result ℤ LineFault
parse_integer word = ok_or (read_integer 0x8000_0000 word) Number

-- CLASS and OBJECT: the number of the class or the object with this name
abbrev pub parse_class : {A : Type 0} → Parts A → List ℕ → Result ClassId LineFault
parse_class m word =
    ok_or (option_map (λ n. record { 0 = n }) (position_from (λ c. bytes_eq word c.name) 0 m.classes)) Name

abbrev pub parse_object : {A : Type 0} → Parts A → List ℕ → Result ObjId LineFault
parse_object m word =
    ok_or (option_map (λ n. record { 0 = n }) (position_from (λ o. bytes_eq word o.name) 0 m.objects)) Name

-- KIND, a kind of dependency
abbrev pub parse_kind : List ℕ → Result Dep LineFault
parse_kind word = ok_or (find (λ kind. bytes_eq word (word_of kind)) all_kinds) Word

-- numbers of 32 bits joined by commas, as operations
abbrev pub parse_numbers : List ℕ → Result (List OpNo) LineFault
parse_numbers word =
    ok_or (option_map numbered (each_read (read_natural 0xffff_ffff) (slice_split (λ b. b == 44) word))) Number

-- OPS: a minus, or numbers of 32 bits joined by commas, in any order; a repeated number counts once
abbrev pub parse_operations : List ℕ → Result (List OpNo) LineFault
parse_operations word =
    if bytes_eq word (codes "-") then Ok []
    else parse_numbers word >>= (λ ops. Ok (each_once ops))

-- the value, if no word is left
abbrev pub alone : {X : Type 0} → X → List (List ℕ) → Result X LineFault
alone x [] = Ok x
alone x _ = Err Arity

-- the INT that is the only remaining word
abbrev pub integer_alone : List (List ℕ) → Result ℤ LineFault
integer_alone (word ∷ []) = parse_integer word
integer_alone _ = Err Arity

-- the operation with the INT that is the only remaining word
abbrev pub with_integer : (ℤ → Op) → List (List ℕ) → Result Op LineFault
with_integer op words = do
  v ← integer_alone words
  Ok (op v)

-- OP, the kind of an operation
abbrev pub parse_op_kind : List ℕ → Result OpKind LineFault
parse_op_kind word =
    if bytes_eq word (op_word op_kind.Read) then Ok op_kind.Read
    else if bytes_eq word (op_word op_kind.Get) then Ok op_kind.Get
    else if bytes_eq word (op_word op_kind.Size) then Ok op_kind.Size
    else if bytes_eq word (op_word op_kind.Write) then Ok op_kind.Write
    else if bytes_eq word (op_word op_kind.Add) then Ok op_kind.Add
    else if bytes_eq word (op_word op_kind.Insert) then Ok op_kind.Insert
    else if bytes_eq word (op_word op_kind.Remove) then Ok op_kind.Remove
    else if bytes_eq word (op_word op_kind.Has) then Ok op_kind.Has
    else Err Word

-- the operation of this kind, from the words after its own
abbrev pub operation_of_kind : OpKind → List (List ℕ) → Result Op LineFault
operation_of_kind op_kind.Read words = alone Read words
operation_of_kind op_kind.Write words = with_integer (λ v. Write v) words
operation_of_kind op_kind.Get words = alone Get words
operation_of_kind op_kind.Add words = with_integer (λ v. Add v) words
operation_of_kind op_kind.Insert words = with_integer (λ v. Insert v) words
operation_of_kind op_kind.Remove words = with_integer (λ v. Remove v) words
operation_of_kind op_kind.Has words = with_integer (λ v. Has v) words
operation_of_kind op_kind.Size words = alone Size words

-- OP [INT], an operation
abbrev pub parse_operation : List ℕ → List (List ℕ) → Result Op LineFault
parse_operation word words = do
  kind ← parse_op_kind word
  operation_of_kind kind words

-- begin T CLASS
unfoldable pub parse_begin : {A : Type 0} → Parts A → List (List ℕ) → Result (Event A) LineFault
parse_begin m (t ∷ class ∷ []) = do
  t ← parse_txn t
  class ← parse_class m class
  Ok (Begin t class)
parse_begin m _ = Err Arity

-- spawn T C CLASS
unfoldable pub parse_spawn : {A : Type 0} → Parts A → List (List ℕ) → Result (Event A) LineFault
parse_spawn m (t ∷ c ∷ class ∷ []) = do
  t ← parse_txn t
  c ← parse_txn c
  class ← parse_class m class
  Ok (Spawn t c class)
parse_spawn m _ = Err Arity

-- split T U CLASS OPS
unfoldable pub parse_split : {A : Type 0} → Parts A → List (List ℕ) → Result (Event A) LineFault
parse_split m (t ∷ u ∷ class ∷ ops ∷ []) = do
  t ← parse_txn t
  u ← parse_txn u
  ops ← parse_operations ops
  class ← parse_class m class
  Ok (Split t u class ops)
parse_split m _ = Err Arity

-- join T U
unfoldable pub parse_join : {A : Type 0} → List (List ℕ) → Result (Event A) LineFault
parse_join (t ∷ u ∷ []) = do
  t ← parse_txn t
  u ← parse_txn u
  Ok (Join t u)
parse_join _ = Err Arity

-- delegate T U OPS
unfoldable pub parse_delegate : {A : Type 0} → List (List ℕ) → Result (Event A) LineFault
parse_delegate (t ∷ u ∷ ops ∷ []) = do
  t ← parse_txn t
  u ← parse_txn u
  ops ← parse_operations ops
  Ok (Delegate t u ops)
parse_delegate _ = Err Arity

-- J I, after a kind
abbrev pub form_of_kind : {A : Type 0} → Dep → List (List ℕ) → Result (Event A) LineFault
form_of_kind kind (j ∷ i ∷ []) = do
  j ← parse_txn j
  i ← parse_txn i
  Ok (Form kind j i)
form_of_kind kind _ = Err Arity

-- form KIND J I
unfoldable pub parse_form : {A : Type 0} → List (List ℕ) → Result (Event A) LineFault
parse_form [] = Err Arity
parse_form (kind ∷ words) = do
  kind ← parse_kind kind
  form_of_kind kind words

-- do T OBJECT OP [INT]
unfoldable pub parse_do : {A : Type 0} → Parts A → List (List ℕ) → Result (Event A) LineFault
parse_do m (t ∷ object ∷ op ∷ words) = do
  op ← parse_operation op words
  t ← parse_txn t
  object ← parse_object m object
  Ok (Operate t object op)
parse_do m _ = Err Arity

-- commit T
unfoldable pub parse_commit : {A : Type 0} → List (List ℕ) → Result (Event A) LineFault
parse_commit (t ∷ []) = do
  t ← parse_txn t
  Ok (Commit t)
parse_commit _ = Err Arity

-- abort T
unfoldable pub parse_abort : {A : Type 0} → List (List ℕ) → Result (Event A) LineFault
parse_abort (t ∷ []) = do
  t ← parse_txn t
  Ok (Abort t)
parse_abort _ = Err Arity

-- permit T U OBJECT
unfoldable pub parse_permit : {A : Type 0} → Parts A → List (List ℕ) → Result (Event A) LineFault
parse_permit m (t ∷ u ∷ object ∷ []) = do
  t ← parse_txn t
  u ← parse_txn u
  object ← parse_object m object
  Ok (Permit t u object)
parse_permit m _ = Err Arity

-- the kind of event whose line has this first word
abbrev pub parse_event_kind : List ℕ → Result EventKind LineFault
parse_event_kind word =
    if bytes_eq word (event_word begin_kind) then Ok begin_kind
    else if bytes_eq word (event_word spawn_kind) then Ok spawn_kind
    else if bytes_eq word (event_word split_kind) then Ok split_kind
    else if bytes_eq word (event_word join_kind) then Ok join_kind
    else if bytes_eq word (event_word delegate_kind) then Ok delegate_kind
    else if bytes_eq word (event_word form_kind) then Ok form_kind
    else if bytes_eq word (event_word operate_kind) then Ok operate_kind
    else if bytes_eq word (event_word commit_kind) then Ok commit_kind
    else if bytes_eq word (event_word abort_kind) then Ok abort_kind
    else if bytes_eq word (event_word permit_kind) then Ok permit_kind
    else Err Word

-- the event of this kind, from the words after the first
abbrev pub event_of_kind : {A : Type 0} → Parts A → EventKind → List (List ℕ) → Result (Event A) LineFault
event_of_kind m begin_kind words = parse_begin m words
event_of_kind m spawn_kind words = parse_spawn m words
event_of_kind m split_kind words = parse_split m words
event_of_kind m join_kind words = parse_join words
event_of_kind m delegate_kind words = parse_delegate words
event_of_kind m form_kind words = parse_form words
event_of_kind m operate_kind words = parse_do m words
event_of_kind m commit_kind words = parse_commit words
event_of_kind m abort_kind words = parse_abort words
event_of_kind m permit_kind words = parse_permit m words

-- the event of these words
unfoldable pub parse_event : {A : Type 0} → Parts A → List (List ℕ) → Result (Event A) LineFault
parse_event m [] = Err Empty
parse_event m (word ∷ words) = do
  kind ← parse_event_kind word
  event_of_kind m kind words

-- the event of a line, or its lowest fault
abbrev pub event_of : {A : Type 0} → Parts A → List ℕ → Result (Event A) LineFault
event_of m line = parse_event m (words_of line)

-- the lower of two faults
abbrev pub lower : LineFault → LineFault → LineFault
lower f g = if nat_le (fault_number f) (fault_number g) then f else g

-- the combination of both, if neither has a fault, otherwise the lower fault
abbrev pub both : {X Y Z : Type 0} → (X → Y → Z) → Result X LineFault → Result Y LineFault → Result Z LineFault
both make (Ok x) (Ok y) = Ok (make x y)
both make (Ok x) (Err fault) = Err fault
both make (Err fault) (Ok y) = Err fault
both make (Err f) (Err g) = Err (lower f g)

-- the return of a word; a number has 64 bits
abbrev pub return_named : List ℕ → Option Ret
return_named word =
    if bytes_eq word done_word then Some Done
    else if bytes_eq word (flag_word true) then Some (Flag true)
    else if bytes_eq word (flag_word false) then Some (Flag false)
    else option_map (λ v. Value v) (read_integer 0x8000_0000_0000_0000 word)

-- the return, from the words after a `=`
unfoldable pub parse_return : List (List ℕ) → Result Ret LineFault
parse_return (word ∷ []) = ok_or (return_named word) Number
parse_return _ = Err Arity

-- whether the word separates an event from its return
abbrev pub is_equals : List ℕ → Bool
is_equals word = bytes_eq word (codes "=")

-- an event with its return
abbrev pub with_return : {A : Type 0} → Event A → Ret → Kept A
with_return event ret = record { event = event; ret = Some ret }

-- an event without a return
abbrev pub plain : {A : Type 0} → Event A → Result (Kept A) LineFault
plain event = Ok (record { event = event; ret = None })

-- the kept item of these words: an event and, if there is a `=`, the return after the first one
unfoldable pub parse_kept : {A : Type 0} → Parts A → List (List ℕ) → Result (Kept A) LineFault
parse_kept m words =
    if list_any is_equals words
    then both with_return (parse_event m (before_first is_equals words)) (parse_return (after_first is_equals words))
    else parse_event m words >>= plain

-- the kept item of a line, or its lowest fault
abbrev pub kept_of : {A : Type 0} → Parts A → List ℕ → Result (Kept A) LineFault
kept_of m line = parse_kept m (words_of line)

-- SEAT: digits with a value from 1 to the number of seats
abbrev pub parse_seat : ℕ → List ℕ → Result ℕ LineFault
parse_seat seats word = do
  seat ← ok_or (read_natural seats word) Number
  if nat_le 1 seat then Ok seat else Err Number

-- the event, from the words after a seat; without words there are too few
abbrev pub event_after : {A : Type 0} → Parts A → List (List ℕ) → Result (Event A) LineFault
event_after m [] = Err Arity
event_after m (word ∷ words) = parse_event m (word ∷ words)

-- an event at its seat
abbrev pub at_seat : {A : Type 0} → Event A → ℕ → Seated A
at_seat event seat = record { seat = seat; event = event }

-- the seated event of these words: a seat, followed by an event
unfoldable pub parse_seated : {A : Type 0} → Parts A → ℕ → List (List ℕ) → Result (Seated A) LineFault
parse_seated m seats [] = Err Empty
parse_seated m seats (seat ∷ words) = both at_seat (event_after m words) (parse_seat seats seat)

-- the seated event of a line, or its lowest fault
abbrev pub seated_of : {A : Type 0} → Parts A → ℕ → List ℕ → Result (Seated A) LineFault
seated_of m seats line = parse_seated m seats (words_of line)

-- whether the word separates two alternatives
abbrev pub is_bar : List ℕ → Bool
is_bar word = bytes_eq word (codes "|")

-- the first event, before the others
abbrev pub one_more : {A : Type 0} → Event A → List (Event A) → List (Event A)
one_more event events = event ∷ events

-- the events of all parts; of several faults the lowest counts
abbrev pub alternatives_in : {A : Type 0} → Parts A → List (List (List ℕ)) → Result (List (Event A)) LineFault
alternatives_in m [] = Ok []
alternatives_in m (part ∷ parts) = both one_more (event_after m part) (alternatives_in m parts)

-- the alternatives of these words: the events between the separators
abbrev pub parse_alternatives : {A : Type 0} → Parts A → List (List ℕ) → Result (List (Event A)) LineFault
parse_alternatives m words = alternatives_in m (slice_split is_bar words)

-- a step of the program of a seat
abbrev pub step_at : {A : Type 0} → List (Event A) → ℕ → ProgramLine A
step_at events seat = record { seat = seat; alternatives = events }

-- the program step of these words: a seat, and then its alternatives
unfoldable pub parse_program_line : {A : Type 0} → Parts A → ℕ → List (List ℕ) → Result (ProgramLine A) LineFault
parse_program_line m seats [] = Err Empty
parse_program_line m seats (seat ∷ words) = both step_at (parse_alternatives m words) (parse_seat seats seat)

-- the program step of a line, or its lowest fault
abbrev pub program_line_of : {A : Type 0} → Parts A → ℕ → List ℕ → Result (ProgramLine A) LineFault
program_line_of m seats line = parse_program_line m seats (words_of line)

-- the error is right: a fault is that of the line, and running out of memory says nothing of it
abbrev pub IsWhy : {X : Type 0} → Result X LineFault → LineError → Type 0
IsWhy parsed error.Memory = ⊤
IsWhy parsed (error.Fault f) = parsed ≡ Err f
