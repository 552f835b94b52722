-- Diagnoses of wrong lines (events, kept items, seated events, debugger commands): the lowest fault, the first word
-- with this fault, and what is expected there. Each word stands for a part of the line, such as a transaction or a
-- class, and has a fault if it cannot be read as this part.
use Rattle.std.specs.Prelude.{◌≡◌, ℕ, ◌<◌, ◌≤◌, ◌+◌, Bool, true, false, ◌==◌, nat_lt, nat_le, List, [], ◌∷◌, length, if◌then◌else◌, Option, Some, None, Result, Ok, Err, ok_or, option_and_then, slice_get}
use Rattle.std.specs.List.{list_any, before_first, after_first, position_or_len}
use Rattle.std.specs.Option.{option_map_or, option_or}
use Rattle.std.specs.Result.{result_ok, result_err}
use Rattle.acta_table.specs.declared.event.EventKind.{EventKind}
use Rattle.acta_table.specs.declared.event.EventKind.TheVariants as event_kind
use Rattle.acta_table.specs.declared.model.Parts.{Parts}
use Rattle.acta_script.specs.declared.command_words.BreakKind.{BreakKind}
use Rattle.acta_script.specs.declared.command_words.BreakKind.TheVariants as break_kind
use Rattle.acta_script.specs.declared.command_words.CommandKind.{CommandKind}
use Rattle.acta_script.specs.declared.command_words.CommandKind.TheVariants as command_kind
use Rattle.acta_script.specs.declared.diagnosis.Diagnostic.{Diagnostic}
use Rattle.acta_script.specs.declared.diagnosis.Expected.{Expected}
use Rattle.acta_script.specs.declared.diagnosis.Expected.TheVariants.{Part, EventForm, OperationForm, CommandForm, BreakForm}
use Rattle.acta_script.specs.declared.diagnosis.LinePart.{LinePart}
use Rattle.acta_script.specs.declared.diagnosis.LinePart.TheVariants.{Event, Kind, Operation, Transaction, Integer, Operations, Class, Object, Return, Seat, Count, Command, Break}
use Rattle.acta_script.specs.declared.diagnosis.WordPlace.{WordPlace}
use Rattle.acta_script.specs.declared.diagnosis.WordPlace.TheVariants.{Wrong, Missing}
use Rattle.acta_script.specs.declared.fault.LineFault.{LineFault}
use Rattle.acta_script.specs.declared.fault.LineFault.TheVariants.{Empty, Word, Arity, Number, Name}
use Rattle.acta_script.specs.declared.op_kind.OpKind.{OpKind}
use Rattle.acta_script.specs.Commands.{parse_break_kind, parse_command_kind, parse_count}
use Rattle.acta_script.specs.Reading.{fault_number, parse_txn, parse_integer, parse_class, parse_object, parse_kind, parse_operations, parse_op_kind, parse_event_kind, return_named, is_equals, parse_seat}
use Rattle.acta_script.specs.Words.{takes_integer}

-- the fault of a word for this part, if it has one
abbrev pub fault_of_word : {A : Type 0} → Parts A → LinePart → List ℕ → Option LineFault
fault_of_word m Event word = result_err (parse_event_kind word)
fault_of_word m Kind word = result_err (parse_kind word)
fault_of_word m Operation word = result_err (parse_op_kind word)
fault_of_word m Transaction word = result_err (parse_txn word)
fault_of_word m Integer word = result_err (parse_integer word)
fault_of_word m Operations word = result_err (parse_operations word)
fault_of_word m Class word = result_err (parse_class m word)
fault_of_word m Object word = result_err (parse_object m word)
fault_of_word m Return word = result_err (ok_or (return_named word) Number)
fault_of_word m (Seat seats) word = result_err (parse_seat seats word)
fault_of_word m Count word = result_err (parse_count word)
fault_of_word m Command word = result_err (parse_command_kind word)
fault_of_word m Break word = result_err (parse_break_kind word)

-- whether the fault that was found is this one
abbrev pub is_fault : LineFault → Option LineFault → Bool
is_fault fault found = option_map_or (λ f. fault_number f == fault_number fault) found false

-- the first word with this fault, given the parts; the first of the words has number n in its line
abbrev pub wrong_word : {A : Type 0} → Parts A → LineFault → ℕ → List LinePart → List (List ℕ) → Option Diagnostic
wrong_word m fault n (part ∷ parts) (word ∷ words) =
    if is_fault fault (fault_of_word m part word)
    then Some (record { fault = fault; place = Wrong n; expected = Part part })
    else wrong_word m fault (n + 1) parts words
wrong_word m fault n _ _ = None

-- the first word too many, or the place after the last word if there are too few
abbrev pub wrong_count : Expected → ℕ → ℕ → ℕ → Option Diagnostic
wrong_count expected n wanted count =
    if nat_lt count wanted then Some (record { fault = Arity; place = Missing (n + count); expected = expected })
    else if nat_lt wanted count then Some (record { fault = Arity; place = Wrong (n + wanted); expected = expected })
    else None

-- the lowest fault and its first word, given the parts; `expected` is used for a wrong number of words
abbrev pub wrong_in : {A : Type 0} → Parts A → List LinePart → Expected → ℕ → List (List ℕ) → Option Diagnostic
wrong_in m parts expected n words =
    option_or (wrong_word m Word n parts words)
    (option_or (wrong_count expected n (length parts) (length words))
    (option_or (wrong_word m Number n parts words) (wrong_word m Name n parts words)))

-- why the place is wrong: its word, read as the part expected there, has this fault; for a wrong number of words it is
-- one of the words, or a place after some of them; in an empty line the first word is missing
abbrev pub IsWrongAt : {A : Type 0} → Parts A → List (List ℕ) → LineFault → WordPlace → Expected → Type 0
IsWrongAt m words Empty place expected = place ≡ Missing 0
IsWrongAt m words Arity (Wrong n) expected = n < length words
IsWrongAt m words Arity (Missing n) expected = n ≤ length words
IsWrongAt m words fault (Wrong n) (Part part) =
    option_and_then (λ word. fault_of_word m part word) (slice_get words n) ≡ Some fault
IsWrongAt m words fault place expected = ⊥

abbrev pub IsWrong : {A : Type 0} → Parts A → List (List ℕ) → Diagnostic → Type 0
IsWrong m words d = IsWrongAt m words d.fault d.place d.expected

-- the operation named by the words after `do`, if they are long enough and name one
abbrev pub op_kind_in : List (List ℕ) → Option OpKind
op_kind_in (t ∷ object ∷ op ∷ words) = result_ok (parse_op_kind op)
op_kind_in _ = None

-- the parts after `do`
abbrev pub operation_parts : Option OpKind → List LinePart
operation_parts (Some op) =
    if takes_integer op then Transaction ∷ Object ∷ Operation ∷ Integer ∷ []
    else Transaction ∷ Object ∷ Operation ∷ []
operation_parts None = Transaction ∷ Object ∷ Operation ∷ []

-- the parts after the first word, for this kind of event and operation
abbrev pub parts_of : EventKind → Option OpKind → List LinePart
parts_of event_kind.Begin op = Transaction ∷ Class ∷ []
parts_of event_kind.Spawn op = Transaction ∷ Transaction ∷ Class ∷ []
parts_of event_kind.Split op = Transaction ∷ Transaction ∷ Class ∷ Operations ∷ []
parts_of event_kind.Join op = Transaction ∷ Transaction ∷ []
parts_of event_kind.Delegate op = Transaction ∷ Transaction ∷ Operations ∷ []
parts_of event_kind.Form op = Kind ∷ Transaction ∷ Transaction ∷ []
parts_of event_kind.Operate op = operation_parts op
parts_of event_kind.Commit op = Transaction ∷ []
parts_of event_kind.Abort op = Transaction ∷ []
parts_of event_kind.Permit op = Transaction ∷ Transaction ∷ Object ∷ []

-- the form that the line should have
abbrev pub form_of : EventKind → Option OpKind → Expected
form_of event_kind.Operate op = option_map_or (λ op. OperationForm op) op (EventForm event_kind.Operate)
form_of kind op = EventForm kind

-- the diagnosis of an event whose first word, number n in its line, was read as a kind or has a fault; `words` are the
-- others
abbrev pub wrong_after : {A : Type 0} → Parts A → ℕ → Result EventKind LineFault → List (List ℕ) → Option Diagnostic
wrong_after m n (Ok kind) words =
    wrong_in m (parts_of kind (op_kind_in words)) (form_of kind (op_kind_in words)) (n + 1) words
wrong_after m n (Err fault) words = Some (record { fault = fault; place = Wrong n; expected = Part Event })

-- the diagnosis of an event's words, of which the first has number n in its line
abbrev pub wrong_event : {A : Type 0} → Parts A → ℕ → List (List ℕ) → Option Diagnostic
wrong_event m n [] = Some (record { fault = Empty; place = Missing n; expected = Part Event })
wrong_event m n (word ∷ words) = wrong_after m n (parse_event_kind word) words

-- the diagnosis of the words after a `=`, of which the first has number n in its line
abbrev pub wrong_return : {A : Type 0} → Parts A → ℕ → List (List ℕ) → Option Diagnostic
wrong_return m n words = wrong_in m (Return ∷ []) (Part Return) n words

-- the diagnosis with the lower fault, or the first if the faults are equal
abbrev pub lower_of : Option Diagnostic → Option Diagnostic → Option Diagnostic
lower_of (Some d) (Some e) = if nat_le (fault_number d.fault) (fault_number e.fault) then Some d else Some e
lower_of d e = option_or d e

-- the diagnosis of a kept item's words, in its event or its return
abbrev pub wrong_kept : {A : Type 0} → Parts A → List (List ℕ) → Option Diagnostic
wrong_kept m words =
    if list_any is_equals words
    then lower_of (wrong_event m 0 (before_first is_equals words)) (wrong_return m (position_or_len is_equals words + 1) (after_first is_equals words))
    else wrong_event m 0 words

-- the diagnosis of a seat, the first word of its line
abbrev pub wrong_seat : {A : Type 0} → Parts A → ℕ → List ℕ → Option Diagnostic
wrong_seat m seats word = wrong_in m (Seat seats ∷ []) (Part (Seat seats)) 0 (word ∷ [])

-- the diagnosis of the words after a seat
abbrev pub wrong_after_seat : {A : Type 0} → Parts A → List (List ℕ) → Option Diagnostic
wrong_after_seat m [] = Some (record { fault = Arity; place = Missing 1; expected = Part Event })
wrong_after_seat m (word ∷ words) = wrong_event m 1 (word ∷ words)

-- the diagnosis of a seated event's words, in its seat or its event
abbrev pub wrong_seated : {A : Type 0} → Parts A → ℕ → List (List ℕ) → Option Diagnostic
wrong_seated m seats [] = Some (record { fault = Empty; place = Missing 0; expected = Part (Seat seats) })
wrong_seated m seats (seat ∷ words) = lower_of (wrong_seat m seats seat) (wrong_after_seat m words)

-- the part after a kind of break
abbrev pub break_parts : BreakKind → List LinePart
break_parts break_kind.Kind = Event ∷ []
break_parts break_kind.Txn = Transaction ∷ []
break_parts break_kind.Object = Object ∷ []
break_parts break_kind.Owed = Count ∷ []
break_parts break_kind.Ended = Transaction ∷ []

-- the diagnosis of a break whose first word was read as its kind or has a fault; `words` are the others
abbrev pub wrong_break_of : {A : Type 0} → Parts A → Result BreakKind LineFault → List (List ℕ) → Option Diagnostic
wrong_break_of m (Ok kind) words = wrong_in m (break_parts kind) (BreakForm kind) 2 words
wrong_break_of m (Err fault) words = Some (record { fault = fault; place = Wrong 1; expected = Part Break })

-- the diagnosis of the words after `break`
abbrev pub wrong_break : {A : Type 0} → Parts A → List (List ℕ) → Option Diagnostic
wrong_break m [] = Some (record { fault = Arity; place = Missing 1; expected = Part Break })
wrong_break m (word ∷ words) = wrong_break_of m (parse_break_kind word) words

-- the parts after the first word, for this kind of command; breaks are handled separately
abbrev pub command_parts : CommandKind → List LinePart
command_parts command_kind.Goto = Count ∷ []
command_parts command_kind.Value = Object ∷ []
command_parts command_kind.Status = Transaction ∷ []
command_parts _ = []

-- whether the kind of command adds a break
abbrev pub is_break : CommandKind → Bool
is_break command_kind.Break = true
is_break _ = false

-- the diagnosis of the words after the first, for this kind of command
abbrev pub wrong_argument : {A : Type 0} → Parts A → CommandKind → List (List ℕ) → Option Diagnostic
wrong_argument m kind words =
    if is_break kind then wrong_break m words
    else wrong_in m (command_parts kind) (CommandForm kind) 1 words

-- the diagnosis of a command whose first word was read as its kind or has a fault; `words` are the others
abbrev pub wrong_command_of : {A : Type 0} → Parts A → Result CommandKind LineFault → List (List ℕ) → Option Diagnostic
wrong_command_of m (Ok kind) words = wrong_argument m kind words
wrong_command_of m (Err fault) words = Some (record { fault = fault; place = Wrong 0; expected = Part Command })

-- the diagnosis of a command's words
abbrev pub wrong_command : {A : Type 0} → Parts A → List (List ℕ) → Option Diagnostic
wrong_command m [] = Some (record { fault = Empty; place = Missing 0; expected = Part Command })
wrong_command m (word ∷ words) = wrong_command_of m (parse_command_kind word) words
