-- The replies to the lines of a session.
use Rattle.std.specs.Prelude.{◌≡◌, ℕ, ◌-◌, ◌==◌, Bool, true, false, List, [], ◌∷◌, ◌++◌, codes, decimal, length, map, if◌then◌else◌, Option, Some, None, Result, Ok, Err}
use Rattle.std.specs.declared.vec.Vec.{Vec}
use Rattle.acta_table.specs.declared.answer.Answer.{Answer}
use Rattle.acta_table.specs.Numbered.{item_at}
use Rattle.acta_words.specs.Text.{line_of, text_of, words_of}
use Rattle.acta_script.specs.declared.diagnosis.Diagnostic.{Diagnostic}
use Rattle.acta_script.specs.declared.programs.ProgramLine.{ProgramLine}
use Rattle.acta_script.specs.declared.shell_lines.ShellCommand.{ShellCommand}
use Rattle.acta_script.specs.declared.shell_lines.ShellCommand.TheVariants.{Undo, Redo, Goto, Status, Value, Held, Conflicts, Edges, Permits, Owed, History, Events, Draw, Why, Next, Explore, Help, Quit}
use Rattle.acta_script.specs.declared.shell_lines.ShellCommand.TheVariants as command
use Rattle.acta_script.specs.declared.shell_lines.ShellLine.{ShellLine}
use Rattle.acta_script.specs.declared.shell_lines.ShellLine.TheVariants as parsed
use Rattle.acta_script.specs.Answers.{answer_line, owed_line}
use Rattle.acta_script.specs.Shell.{shell_line_of}
use Rattle.acta_script.specs.Words.{fault_name}
use Rattle.acta_script.specs.Writing.{kept_line}
use Rattle.acta_machine.specs.Table.{State, access_set_in, answer_to, conflict_set_in, debts_in}
use Rattle.acta_trace.specs.Lines.{event_line_in}
use Rattle.acta_trace.specs.States.{ArePermitLines, edge_lines, operations_line, state_lines, status_line, value_line}
use Rattle.acta_debug.specs.Sessions.{Session}
use Rattle.acta_session.specs.declared.typed.Typed.{Typed}
use Rattle.acta_session.specs.declared.typed.Typed.TheVariants.{Comment, End, Line, Faulty}
use Rattle.acta_session.specs.Help.{IsHelp}
use Rattle.acta_session.specs.Remarks.{AreRemarked, IsRemarked}
use Rattle.acta_session.specs.Shells.{ShellState, can_move, place_after, state_of, typed_of}

-- the separator between an answer and the words beside it
abbrev pub after_answer : List ℕ
after_answer = codes "    "

-- the separator between the name of a fault and the words beside it
abbrev pub after_name : List ℕ
after_name = codes ", "

-- at N: the place after a move
abbrev pub place_line : ℕ → List ℕ
place_line n = line_of (codes "at" ∷ decimal n ∷ [])

-- the words that only this many events can be moved over
abbrev pub few_events : ℕ → List ℕ
few_events n =
    if n == 0 then codes "no event"
    else if n == 1 then codes "only 1 event"
    else codes "only" ++ (32 ∷ decimal n) ++ codes " events"

abbrev pub events_left : ℕ → List ℕ → List ℕ
events_left n action = few_events n ++ codes " can be " ++ action ++ codes " (nothing was done)"

-- the words with the places to which one can move
unfoldable pub all_places : ℕ → List ℕ
all_places last = codes "the places are 0 to" ++ (32 ∷ decimal last)

abbrev pub places_line : ℕ → List ℕ
places_line last = all_places last ++ codes " (nothing was done)"

-- the line that a move can't be made, and how far one can move
abbrev pub no_move_line : {A : Type 0} → Session A → ShellCommand → List ℕ
no_move_line s (Undo n) = events_left s.at (codes "taken back")
no_move_line s (Redo n) = events_left (length s.history - s.at) (codes "done again")
no_move_line s _ = places_line (length s.history)

-- the reply to a move
abbrev pub move_line : {A : Type 0} → Session A → ShellCommand → List ℕ
move_line s c = if can_move s c then place_line (place_after s c) else no_move_line s c

-- the reply to `explore`, after which lines of programs are read
abbrev pub explore_line : List ℕ
explore_line = codes "programs: SEAT EVENT [| EVENT]... in each line; an empty line ends them"

-- the number of the refusal that is asked about: the last, if none is named
abbrev pub refusal_number : List Answer → Option ℕ → ℕ
refusal_number refusals (Some n) = n
refusal_number refusals None = length refusals

-- the line with the numbers of the refused events, by how many there are
abbrev pub refused_line : ℕ → List ℕ
refused_line n =
    if n == 0 then codes "no event was refused"
    else codes "the refused events have the numbers 1 to" ++ (32 ∷ decimal n)

-- the reply about a refusal begins with its answer
abbrev pub SaysWhy : List Answer → Option Answer → List ℕ → Type 0
SaysWhy refusals (Some answer) text = IsRemarked (answer_line answer) after_answer text
SaysWhy refusals None text = text ≡ text_of (refused_line (length refusals) ∷ [])

-- the lines with which the reply to a command about the state begins
abbrev pub lines_for : {A : Type 0} → Session A → ShellCommand → List (List ℕ)
lines_for s command.State = state_lines (state_of s)
lines_for s (Status t) = status_line (state_of s) t ∷ []
lines_for s (Value ob) = value_line (state_of s) ob ∷ []
lines_for s (Held t) = operations_line (access_set_in (state_of s) t.0) ∷ []
lines_for s (Conflicts t) = operations_line (conflict_set_in (state_of s) t.0) ∷ []
lines_for s (Edges t) = edge_lines (state_of s) t
lines_for s Owed = map owed_line (debts_in (state_of s))
lines_for s _ = []

-- relations: the text that may answer a command on a machine, and programs that continue from there
abbrev pub SaysCommand : Type 0 → Type 1
SaysCommand A = State A → ShellCommand → Vec ℕ A → Type 0

abbrev pub SaysEnds : Type 0 → Type 1
SaysEnds A = State A → List (ProgramLine A) → Vec ℕ A → Type 0

-- the text is a reply to the command
abbrev pub SaysOf : {A : Type 0} → SaysCommand A → ShellState A → ShellCommand → Vec ℕ A → Type 0
SaysOf says s (Undo n) text = text.items ≡ text_of (move_line s.session (Undo n) ∷ [])
SaysOf says s (Redo n) text = text.items ≡ text_of (move_line s.session (Redo n) ∷ [])
SaysOf says s (Goto n) text = text.items ≡ text_of (move_line s.session (Goto n) ∷ [])
SaysOf says s History text = text.items ≡ text_of (map (kept_line s.session.model) (state_of s.session).kept)
SaysOf says s Events text = text.items ≡ text_of (map (event_line_in s.session.model) (state_of s.session).kept)
SaysOf says s Permits text = (lines : List (List ℕ)) × ArePermitLines (state_of s.session) lines × (text.items ≡ text_of lines)
SaysOf says s Explore text = text.items ≡ text_of (explore_line ∷ [])
SaysOf says s (Why n) text = SaysWhy s.refusals (item_at s.refusals (refusal_number s.refusals n)) text.items
SaysOf says s Draw text = says (state_of s.session) Draw text
SaysOf says s (Next t) text = says (state_of s.session) (Next t) text
SaysOf says s (Help topic) text = IsHelp topic text.items
SaysOf says s Quit text = text.items ≡ []
SaysOf says s c text = AreRemarked (lines_for s.session c) text.items

-- the reply to a faulty line begins with the name of its fault; a line without a word has none
abbrev pub SaysFault : List (List ℕ) → Diagnostic → List ℕ → Type 0
SaysFault [] d text = text ≡ []
SaysFault (word ∷ words) d text = IsRemarked (fault_name d.fault) after_name text

-- the text is a reply to the parsed line: for an event, it begins with the machine's answer
abbrev pub Says : {A : Type 0} → SaysCommand A → ShellState A → List (List ℕ) → Result (ShellLine A) Diagnostic → Vec ℕ A → Type 0
Says says s words (Ok (parsed.Event event)) text = IsRemarked (answer_line (answer_to (state_of s.session) event)) after_answer text.items
Says says s words (Ok (parsed.Can event)) text = IsRemarked (answer_line (answer_to (state_of s.session) event)) after_answer text.items
Says says s words (Ok (parsed.Command command)) text = SaysOf says s command text
Says says s words (Err d) text = SaysFault words d text.items

-- the text is a reply to a line of programs; the line that ends them is answered with their ends
abbrev pub SaysTyped : {A : Type 0} → SaysEnds A → ShellState A → Typed A → Vec ℕ A → Type 0
SaysTyped says_ends s Comment text = text.items ≡ []
SaysTyped says_ends s End text = says_ends (state_of s.session) s.programs text
SaysTyped says_ends s (Line line) text = text.items ≡ []
SaysTyped says_ends s (Faulty fault) text = IsRemarked (fault_name fault) after_name text.items

-- the text is a reply to the line, depending on whether lines of programs are read
abbrev pub SaysWhile : {A : Type 0} → Bool → SaysCommand A → SaysEnds A → ShellState A → List ℕ → Vec ℕ A → Type 0
SaysWhile true says says_ends s line text = SaysTyped says_ends s (typed_of s.session.model line) text
SaysWhile false says says_ends s line text = Says says s (words_of line) (shell_line_of s.session.model line) text

-- the text is a reply to the line
unfoldable pub IsReply : {A : Type 0} → SaysCommand A → SaysEnds A → ShellState A → List ℕ → Vec ℕ A → Type 0
IsReply says says_ends s line text = SaysWhile s.is_exploring says says_ends s line text
