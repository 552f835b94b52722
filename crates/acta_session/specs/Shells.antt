-- The state of a session, and how a line changes it.
use Rattle.std.specs.Prelude.{ℕ, ◌+◌, ◌-◌, ◌==◌, Bool, true, false, nat_le, List, [], ◌∷◌, ◌++◌, length, if◌then◌else◌, Result, Ok, Err}
use Rattle.std.specs.List.{list_any}
use Rattle.acta_table.specs.declared.answer.Answer.{Answer}
use Rattle.acta_table.specs.declared.answer.Answer.TheVariants.{Admitted, Refused}
use Rattle.acta_table.specs.declared.event.Event.{Event}
use Rattle.acta_table.specs.declared.model.Parts.{Parts}
use Rattle.acta_words.specs.Text.{is_mark, words_of}
use Rattle.acta_script.specs.declared.diagnosis.Diagnostic.{Diagnostic}
use Rattle.acta_script.specs.declared.fault.LineFault.{LineFault}
use Rattle.acta_script.specs.declared.programs.ProgramLine.{ProgramLine}
use Rattle.acta_script.specs.declared.shell_lines.ShellCommand.{ShellCommand}
use Rattle.acta_script.specs.declared.shell_lines.ShellCommand.TheVariants.{Undo, Redo, Goto, Explore, Quit}
use Rattle.acta_script.specs.declared.shell_lines.ShellLine.{ShellLine}
use Rattle.acta_script.specs.declared.shell_lines.ShellLine.TheVariants as parsed
use Rattle.acta_script.specs.Reading.{program_line_of}
use Rattle.acta_script.specs.Shell.{shell_line_of}
use Rattle.acta_machine.specs.Table.{State, answer_to}
use Rattle.acta_debug.specs.Histories.{state_at}
use Rattle.acta_debug.specs.Moves.{taken}
use Rattle.acta_debug.specs.Sessions.{Session, moved_to, opened}
use Rattle.acta_session.specs.declared.typed.Typed.{Typed}
use Rattle.acta_session.specs.declared.typed.Typed.TheVariants.{Comment, End, Line, Faulty}

-- the admitted events, with those that were undone and can be redone; the answers to the refused events, in order; whether
-- lines of programs are read, and those read since `explore`
pub record ShellState (A : Type 0) : Type 0 where
  pub session : Session A
  pub refusals : List Answer
  pub is_exploring : Bool
  pub programs : List (ProgramLine A)

-- the state before the first line
abbrev pub begun : {A : Type 0} → Parts A → ShellState A
begun m = record { session = opened m []; refusals = []; is_exploring = false; programs = [] }

-- the machine after the events so far
abbrev pub state_of : {A : Type 0} → Session A → State A
state_of s = state_at s.model s.history s.at

-- whether the command is a move that can be made: to undo or redo at most as many events as there are, or to an existing
-- place
abbrev pub can_move : {A : Type 0} → Session A → ShellCommand → Bool
can_move s (Undo n) = nat_le n s.at
can_move s (Redo n) = nat_le (s.at + n) (length s.history)
can_move s (Goto n) = nat_le n (length s.history)
can_move s _ = false

-- the place to which a command moves
abbrev pub place_after : {A : Type 0} → Session A → ShellCommand → ℕ
place_after s (Undo n) = s.at - n
place_after s (Redo n) = s.at + n
place_after s (Goto n) = n
place_after s _ = s.at

-- the session after a command: only the place changes; undone events remain until another event is admitted
abbrev pub moved : {A : Type 0} → Session A → ShellCommand → Session A
moved s command = if can_move s command then moved_to s (place_after s command) else s

-- the answer, if it is a refusal
abbrev pub refusal_by : Answer → List Answer
refusal_by (Admitted place ret) = []
refusal_by (Refused rule by) = Refused rule by ∷ []

-- the state after an event
abbrev pub after_event : {A : Type 0} → ShellState A → Event A → ShellState A
after_event s event = record s {
  session = taken s.session event;
  refusals = s.refusals ++ refusal_by (answer_to (state_of s.session) event);
}

-- the state after a command: after `explore`, lines of programs are read
abbrev pub after_command : {A : Type 0} → ShellState A → ShellCommand → ShellState A
after_command s Explore = record s { is_exploring = true; programs = [] }
after_command s command = record s { session = moved s.session command }

-- the state after a parsed line: a question changes nothing, nor does a faulty line
abbrev pub after_parsed : {A : Type 0} → ShellState A → Result (ShellLine A) Diagnostic → ShellState A
after_parsed s (Ok (parsed.Event event)) = after_event s event
after_parsed s (Ok (parsed.Can event)) = s
after_parsed s (Ok (parsed.Command command)) = after_command s command
after_parsed s (Err d) = s

-- a line with a word while lines of programs are read; seats are numbered from 1 to 16
abbrev pub read_by : {A : Type 0} → Result (ProgramLine A) LineFault → Typed A
read_by (Ok line) = Line line
read_by (Err fault) = Faulty fault

abbrev pub read_as : {A : Type 0} → Parts A → List ℕ → Typed A
read_as m line = read_by (program_line_of m 16 line)

-- any line while lines of programs are read: one without a word ends the programs, unless it has a comment
abbrev pub typed_of : {A : Type 0} → Parts A → List ℕ → Typed A
typed_of m line =
    if length (words_of line) == 0 then (if list_any is_mark line then Comment else End) else read_as m line

-- the state after such a line: a faulty one changes nothing
abbrev pub after_typed : {A : Type 0} → ShellState A → Typed A → ShellState A
after_typed s Comment = s
after_typed s End = record s { is_exploring = false; programs = [] }
after_typed s (Line line) = record s { programs = s.programs ++ line ∷ [] }
after_typed s (Faulty fault) = s

unfoldable pub after_line : {A : Type 0} → ShellState A → List ℕ → ShellState A
after_line s line =
    if s.is_exploring then after_typed s (typed_of s.session.model line)
    else after_parsed s (shell_line_of s.session.model line)

-- whether a line ends the session
abbrev pub quits_by : {A : Type 0} → Result (ShellLine A) Diagnostic → Bool
quits_by (Ok (parsed.Command Quit)) = true
quits_by _ = false

unfoldable pub quits : {A : Type 0} → ShellState A → List ℕ → Bool
quits s line = if s.is_exploring then false else quits_by (shell_line_of s.session.model line)
