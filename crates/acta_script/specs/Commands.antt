-- The debugger command of a line, or its fault. Unknown words are checked first, then the number of words, then
-- numbers, then names, so that the fault is the lowest.
use Rattle.std.specs.Prelude.{ℕ, List, [], ◌∷◌, if◌then◌else◌, ok_or, Result, Ok, Err}
use Rattle.std.specs.Str.{bytes_eq}
use Rattle.acta_table.specs.declared.model.Parts.{Parts}
use Rattle.acta_words.specs.Numerals.{read_natural}
use Rattle.acta_words.specs.Text.{words_of}
use Rattle.acta_script.specs.declared.commands.BreakOn.{BreakOn}
use Rattle.acta_script.specs.declared.commands.BreakOn.TheVariants.{Kind, Txn, Object, Owed as owed_break, Ended}
use Rattle.acta_script.specs.declared.commands.DebugCommand.{DebugCommand}
use Rattle.acta_script.specs.declared.commands.DebugCommand.TheVariants.{Step, Back, Goto, Run, Break, Clear, Value, Status, Owed}
use Rattle.acta_script.specs.declared.command_words.BreakKind.{BreakKind}
use Rattle.acta_script.specs.declared.command_words.BreakKind.TheVariants as break_kind
use Rattle.acta_script.specs.declared.command_words.CommandKind.{CommandKind}
use Rattle.acta_script.specs.declared.command_words.CommandKind.TheVariants as command_kind
use Rattle.acta_script.specs.declared.fault.LineFault.{LineFault}
use Rattle.acta_script.specs.declared.fault.LineFault.TheVariants.{Empty, Word, Arity, Number}
use Rattle.acta_script.specs.Reading.{◌>>=◌, alone, parse_event_kind, parse_object, parse_txn}
use Rattle.acta_script.specs.Words.{break_word, command_word}

-- N, a count: digits with a value of 32 bits
abbrev pub parse_count : List ℕ → Result ℕ LineFault
parse_count word = ok_or (read_natural 0xffff_ffff word) Number

-- the only remaining word
abbrev pub one_word : List (List ℕ) → Result (List ℕ) LineFault
one_word (word ∷ []) = Ok word
one_word _ = Err Arity

-- kind EVENT, where EVENT is the first word of an event's line
abbrev pub parse_kind_break : List (List ℕ) → Result BreakOn LineFault
parse_kind_break [] = Err Arity
parse_kind_break (word ∷ words) = do
  kind ← parse_event_kind word
  alone (Kind kind) words

-- txn T
abbrev pub parse_txn_break : List (List ℕ) → Result BreakOn LineFault
parse_txn_break words = do
  word ← one_word words
  t ← parse_txn word
  Ok (Txn t)

-- object OBJECT
abbrev pub parse_object_break : {A : Type 0} → Parts A → List (List ℕ) → Result BreakOn LineFault
parse_object_break m words = do
  word ← one_word words
  object ← parse_object m word
  Ok (Object object)

-- owed N
abbrev pub parse_owed_break : List (List ℕ) → Result BreakOn LineFault
parse_owed_break words = do
  word ← one_word words
  n ← parse_count word
  Ok (owed_break n)

-- ended T
abbrev pub parse_ended_break : List (List ℕ) → Result BreakOn LineFault
parse_ended_break words = do
  word ← one_word words
  t ← parse_txn word
  Ok (Ended t)

-- the kind of break with this word
abbrev pub parse_break_kind : List ℕ → Result BreakKind LineFault
parse_break_kind word =
    if bytes_eq word (break_word break_kind.Kind) then Ok break_kind.Kind
    else if bytes_eq word (break_word break_kind.Txn) then Ok break_kind.Txn
    else if bytes_eq word (break_word break_kind.Object) then Ok break_kind.Object
    else if bytes_eq word (break_word break_kind.Owed) then Ok break_kind.Owed
    else if bytes_eq word (break_word break_kind.Ended) then Ok break_kind.Ended
    else Err Word

-- the break of this kind, from the words after the kind's word
abbrev pub break_of_kind : {A : Type 0} → Parts A → BreakKind → List (List ℕ) → Result BreakOn LineFault
break_of_kind m break_kind.Kind words = parse_kind_break words
break_of_kind m break_kind.Txn words = parse_txn_break words
break_of_kind m break_kind.Object words = parse_object_break m words
break_of_kind m break_kind.Owed words = parse_owed_break words
break_of_kind m break_kind.Ended words = parse_ended_break words

-- the break, from the words after `break`
unfoldable pub parse_break : {A : Type 0} → Parts A → List (List ℕ) → Result BreakOn LineFault
parse_break m [] = Err Arity
parse_break m (word ∷ words) = do
  kind ← parse_break_kind word
  break_of_kind m kind words

-- goto N
abbrev pub parse_goto : List (List ℕ) → Result DebugCommand LineFault
parse_goto words = do
  word ← one_word words
  n ← parse_count word
  Ok (Goto n)

-- value OBJECT
abbrev pub parse_value : {A : Type 0} → Parts A → List (List ℕ) → Result DebugCommand LineFault
parse_value m words = do
  word ← one_word words
  object ← parse_object m word
  Ok (Value object)

-- status T
abbrev pub parse_status : List (List ℕ) → Result DebugCommand LineFault
parse_status words = do
  word ← one_word words
  t ← parse_txn word
  Ok (Status t)

-- a command that adds a break
abbrev pub parse_break_command : {A : Type 0} → Parts A → List (List ℕ) → Result DebugCommand LineFault
parse_break_command m words = do
  on ← parse_break m words
  Ok (Break on)

-- the kind of command with this first word
abbrev pub parse_command_kind : List ℕ → Result CommandKind LineFault
parse_command_kind word =
    if bytes_eq word (command_word command_kind.Step) then Ok command_kind.Step
    else if bytes_eq word (command_word command_kind.Back) then Ok command_kind.Back
    else if bytes_eq word (command_word command_kind.Goto) then Ok command_kind.Goto
    else if bytes_eq word (command_word command_kind.Run) then Ok command_kind.Run
    else if bytes_eq word (command_word command_kind.Break) then Ok command_kind.Break
    else if bytes_eq word (command_word command_kind.Clear) then Ok command_kind.Clear
    else if bytes_eq word (command_word command_kind.Value) then Ok command_kind.Value
    else if bytes_eq word (command_word command_kind.Status) then Ok command_kind.Status
    else if bytes_eq word (command_word command_kind.Owed) then Ok command_kind.Owed
    else Err Word

-- the command of this kind, from the words after the first
abbrev pub command_of_kind : {A : Type 0} → Parts A → CommandKind → List (List ℕ) → Result DebugCommand LineFault
command_of_kind m command_kind.Step words = alone Step words
command_of_kind m command_kind.Back words = alone Back words
command_of_kind m command_kind.Goto words = parse_goto words
command_of_kind m command_kind.Run words = alone Run words
command_of_kind m command_kind.Break words = parse_break_command m words
command_of_kind m command_kind.Clear words = alone Clear words
command_of_kind m command_kind.Value words = parse_value m words
command_of_kind m command_kind.Status words = parse_status words
command_of_kind m command_kind.Owed words = alone Owed words

-- the command of these words
unfoldable pub parse_command : {A : Type 0} → Parts A → List (List ℕ) → Result DebugCommand LineFault
parse_command m [] = Err Empty
parse_command m (word ∷ words) = do
  kind ← parse_command_kind word
  command_of_kind m kind words

-- the command of a line, or its lowest fault
abbrev pub command_of : {A : Type 0} → Parts A → List ℕ → Result DebugCommand LineFault
command_of m line = parse_command m (words_of line)
