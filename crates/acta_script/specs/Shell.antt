-- Lines of a session: an event, a question whether an event would be admitted, or a command; or the line's diagnosis.
use Rattle.std.specs.Prelude.{◌≡◌, ⊤, ℕ, List, [], ◌∷◌, find, if◌then◌else◌, Option, Some, None, Result, Ok, Err}
use Rattle.std.specs.Option.{option_map_or, option_or}
use Rattle.std.specs.Str.{bytes_eq}
use Rattle.acta_table.specs.declared.event.Event.{Event}
use Rattle.acta_table.specs.declared.event.EventKind.{EventKind}
use Rattle.acta_table.specs.declared.event.ObjId.{ObjId}
use Rattle.acta_table.specs.declared.event.TxnId.{TxnId}
use Rattle.acta_table.specs.declared.model.Parts.{Parts}
use Rattle.acta_words.specs.Text.{words_of}
use Rattle.acta_script.specs.declared.diagnosis.Diagnostic.{Diagnostic}
use Rattle.acta_script.specs.declared.diagnosis.Expected.TheVariants.{Part, ShellForm}
use Rattle.acta_script.specs.declared.diagnosis.LinePart.{LinePart}
use Rattle.acta_script.specs.declared.diagnosis.LinePart.TheVariants as part
use Rattle.acta_script.specs.declared.diagnosis.WordPlace.{WordPlace}
use Rattle.acta_script.specs.declared.diagnosis.WordPlace.TheVariants.{Wrong as wrong_at, Missing as missing_at}
use Rattle.acta_script.specs.declared.fault.LineFault.{LineFault}
use Rattle.acta_script.specs.declared.fault.LineFault.TheVariants.{Arity}
use Rattle.acta_script.specs.declared.shell_lines.ShellCommand.{ShellCommand}
use Rattle.acta_script.specs.declared.shell_lines.ShellCommand.TheVariants as command
use Rattle.acta_script.specs.declared.shell_lines.ShellFault.{ShellFault}
use Rattle.acta_script.specs.declared.shell_lines.ShellFault.TheVariants as shell_fault
use Rattle.acta_script.specs.declared.shell_lines.ShellLine.{ShellLine}
use Rattle.acta_script.specs.declared.shell_lines.ShellLine.TheVariants as line
use Rattle.acta_script.specs.declared.shell_lines.Topic.{Topic}
use Rattle.acta_script.specs.declared.shell_lines.Topic.TheVariants as topic
use Rattle.acta_script.specs.declared.shell_words.ShellKind.{ShellKind}
use Rattle.acta_script.specs.declared.shell_words.ShellKind.TheVariants as kind
use Rattle.acta_script.specs.Commands.{parse_count}
use Rattle.acta_script.specs.Diagnosis.{wrong_after_seat, wrong_event}
use Rattle.acta_script.specs.Laws.{IsInModel}
use Rattle.acta_script.specs.Reading.{event_after, parse_event_kind, parse_event, parse_object, parse_txn}
use Rattle.acta_script.specs.Words.{can_word, shell_word}

-- all kinds of command
abbrev pub shell_kinds : List ShellKind
shell_kinds =
    kind.Undo ∷ kind.Redo ∷ kind.Goto ∷ kind.State ∷ kind.Status ∷ kind.Value ∷ kind.Held ∷ kind.Conflicts ∷ kind.Edges
    ∷ kind.Permits ∷ kind.Owed ∷ kind.History ∷ kind.Events ∷ kind.Draw ∷ kind.Why ∷ kind.Next ∷ kind.Explore ∷ kind.Help ∷ kind.Quit ∷ []

-- the kind of command with this word
abbrev pub shell_kind_of : List ℕ → Option ShellKind
shell_kind_of word = find (λ kind. bytes_eq word (shell_word kind)) shell_kinds

-- the result of f on the value, or the diagnosis
abbrev pub and_then : {X Y : Type 0} → (X → Result Y Diagnostic) → Result X Diagnostic → Result Y Diagnostic
and_then f (Ok x) = f x
and_then f (Err d) = Err d

abbrev pub map_parsed : {X Y : Type 0} → (X → Y) → Result X Diagnostic → Result Y Diagnostic
map_parsed f (Ok x) = Ok (f x)
map_parsed f (Err d) = Err d

-- the value read from word number n, or the diagnosis that the word is wrong for this part
abbrev pub at_word : {X : Type 0} → ℕ → LinePart → Result X LineFault → Result X Diagnostic
at_word n part (Ok x) = Ok x
at_word n part (Err fault) = Err (record { fault = fault; place = wrong_at n; expected = Part part })

-- the diagnosis for too few or too many words of this kind of command
abbrev pub wrong_number : ShellKind → WordPlace → Diagnostic
wrong_number kind place = record { fault = Arity; place = place; expected = ShellForm kind }

-- the only word after the command
abbrev pub one_word : ShellKind → List (List ℕ) → Result (List ℕ) Diagnostic
one_word kind [] = Err (wrong_number kind (missing_at 1))
one_word kind (word ∷ []) = Ok word
one_word kind (word ∷ more ∷ words) = Err (wrong_number kind (wrong_at 2))

-- a command without arguments
abbrev pub parse_alone : ShellKind → ShellCommand → List (List ℕ) → Result ShellCommand Diagnostic
parse_alone kind command [] = Ok command
parse_alone kind command (word ∷ words) = Err (wrong_number kind (wrong_at 1))

-- an optional argument
abbrev pub parse_maybe : {X : Type 0} → (List (List ℕ) → Result X Diagnostic) → List (List ℕ) → Result (Option X) Diagnostic
parse_maybe read [] = Ok None
parse_maybe read (word ∷ words) = map_parsed (λ x. Some x) (read (word ∷ words))

-- N
abbrev pub parse_one_count : ShellKind → List (List ℕ) → Result ℕ Diagnostic
parse_one_count kind words = and_then (λ word. at_word 1 part.Count (parse_count word)) (one_word kind words)

abbrev pub parse_maybe_count : ShellKind → List (List ℕ) → Result (Option ℕ) Diagnostic
parse_maybe_count kind words = parse_maybe (parse_one_count kind) words

-- a count, by default 1
abbrev pub or_one : Option ℕ → ℕ
or_one count = option_map_or (λ n. n) count 1

-- T
abbrev pub parse_one_txn : ShellKind → List (List ℕ) → Result TxnId Diagnostic
parse_one_txn kind words = and_then (λ word. at_word 1 part.Transaction (parse_txn word)) (one_word kind words)

abbrev pub parse_maybe_txn : ShellKind → List (List ℕ) → Result (Option TxnId) Diagnostic
parse_maybe_txn kind words = parse_maybe (parse_one_txn kind) words

-- OBJECT
abbrev pub parse_one_object : {A : Type 0} → Parts A → ShellKind → List (List ℕ) → Result ObjId Diagnostic
parse_one_object m kind words = and_then (λ word. at_word 1 part.Object (parse_object m word)) (one_word kind words)

-- COMMAND: the word of a command, `can`, or the word of an event
abbrev pub event_topic : Result EventKind LineFault → Result Topic LineFault
event_topic (Ok kind) = Ok (topic.Event kind)
event_topic (Err fault) = Err fault

abbrev pub parse_topic : List ℕ → Result Topic LineFault
parse_topic word =
    if bytes_eq word can_word then Ok topic.Can
    else option_map_or (λ kind. Ok (topic.Command kind)) (shell_kind_of word) (event_topic (parse_event_kind word))

abbrev pub parse_one_topic : ShellKind → List (List ℕ) → Result Topic Diagnostic
parse_one_topic kind words = and_then (λ word. at_word 1 part.Event (parse_topic word)) (one_word kind words)

abbrev pub parse_maybe_topic : ShellKind → List (List ℕ) → Result (Option Topic) Diagnostic
parse_maybe_topic kind words = parse_maybe (parse_one_topic kind) words

-- the command of this kind, from the words after the first
abbrev pub shell_command_of : {A : Type 0} → Parts A → ShellKind → List (List ℕ) → Result ShellCommand Diagnostic
shell_command_of m kind.Undo words = map_parsed (λ n. command.Undo (or_one n)) (parse_maybe_count kind.Undo words)
shell_command_of m kind.Redo words = map_parsed (λ n. command.Redo (or_one n)) (parse_maybe_count kind.Redo words)
shell_command_of m kind.Goto words = map_parsed (λ n. command.Goto n) (parse_one_count kind.Goto words)
shell_command_of m kind.State words = parse_alone kind.State command.State words
shell_command_of m kind.Status words = map_parsed (λ t. command.Status t) (parse_one_txn kind.Status words)
shell_command_of m kind.Value words = map_parsed (λ object. command.Value object) (parse_one_object m kind.Value words)
shell_command_of m kind.Held words = map_parsed (λ t. command.Held t) (parse_one_txn kind.Held words)
shell_command_of m kind.Conflicts words = map_parsed (λ t. command.Conflicts t) (parse_one_txn kind.Conflicts words)
shell_command_of m kind.Edges words = map_parsed (λ t. command.Edges t) (parse_maybe_txn kind.Edges words)
shell_command_of m kind.Permits words = parse_alone kind.Permits command.Permits words
shell_command_of m kind.Owed words = parse_alone kind.Owed command.Owed words
shell_command_of m kind.History words = parse_alone kind.History command.History words
shell_command_of m kind.Events words = parse_alone kind.Events command.Events words
shell_command_of m kind.Draw words = parse_alone kind.Draw command.Draw words
shell_command_of m kind.Why words = map_parsed (λ n. command.Why n) (parse_maybe_count kind.Why words)
shell_command_of m kind.Next words = map_parsed (λ t. command.Next t) (parse_maybe_txn kind.Next words)
shell_command_of m kind.Explore words = parse_alone kind.Explore command.Explore words
shell_command_of m kind.Help words = map_parsed (λ topic. command.Help topic) (parse_maybe_topic kind.Help words)
shell_command_of m kind.Quit words = parse_alone kind.Quit command.Quit words

-- the diagnosis found; the default, for an event without one, has only the fault
abbrev pub wrong_by : Option Diagnostic → LineFault → Diagnostic
wrong_by (Some d) fault = d
wrong_by None fault = record { fault = fault; place = missing_at 0; expected = Part part.Event }

-- the event that was read, or the diagnosis of its words
abbrev pub event_or_wrong : {A X : Type 0} → (Event A → X) → Result (Event A) LineFault → Option Diagnostic → Result X Diagnostic
event_or_wrong make (Ok event) found = Ok (make event)
event_or_wrong make (Err fault) found = Err (wrong_by found fault)

-- an event, from all words of the line
abbrev pub parse_event_line : {A : Type 0} → Parts A → List (List ℕ) → Result (ShellLine A) Diagnostic
parse_event_line m words = event_or_wrong (λ event. line.Event event) (parse_event m words) (wrong_event m 0 words)

-- the question whether the event after the word `can` would be admitted
abbrev pub parse_can_line : {A : Type 0} → Parts A → List (List ℕ) → Result (ShellLine A) Diagnostic
parse_can_line m words = event_or_wrong (λ event. line.Can event) (event_after m words) (wrong_after_seat m words)

-- a command if the first word is that of one, otherwise an event
abbrev pub parse_command_line : {A : Type 0} → Parts A → Option ShellKind → List ℕ → List (List ℕ) → Result (ShellLine A) Diagnostic
parse_command_line m (Some kind) word words = map_parsed (λ parsed. line.Command parsed) (shell_command_of m kind words)
parse_command_line m None word words = parse_event_line m (word ∷ words)

-- the session line of these words
unfoldable pub parse_shell_line : {A : Type 0} → Parts A → List (List ℕ) → Result (ShellLine A) Diagnostic
parse_shell_line m [] = parse_event_line m []
parse_shell_line m (word ∷ words) =
    if bytes_eq word can_word then parse_can_line m words
    else parse_command_line m (shell_kind_of word) word words

-- the session line of a line, or its diagnosis
abbrev pub shell_line_of : {A : Type 0} → Parts A → List ℕ → Result (ShellLine A) Diagnostic
shell_line_of m line = parse_shell_line m (words_of line)

-- the error is right: a diagnosis is that of the line, and running out of memory says nothing of it
abbrev pub IsWhyNot : {X : Type 0} → Result X Diagnostic → ShellFault → Type 0
IsWhyNot read (shell_fault.Wrong d) = read ≡ Err d
IsWhyNot read shell_fault.Memory = ⊤

-- the objects and classes named by the line's event are in the model
abbrev pub IsShellInModel : {A : Type 0} → Parts A → ShellLine A → Type 0
IsShellInModel m (line.Event event) = IsInModel m event
IsShellInModel m (line.Can event) = IsInModel m event
IsShellInModel m (line.Command parsed) = ⊤
