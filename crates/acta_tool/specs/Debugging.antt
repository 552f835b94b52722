-- The replies to commands to a debugger.
use Rattle.std.specs.Prelude.{ℕ, List, [], ◌∷◌, ◌++◌, length, map, codes, decimal, Result, Ok, Err}
use Rattle.acta_words.specs.Text.{line_of}
use Rattle.acta_machine.specs.Table.{State, debts_in}
use Rattle.acta_debug.specs.declared.breaks.Break.{Break}
use Rattle.acta_debug.specs.declared.breaks.Break.TheVariants.{Kind, Touches, Object, OwedAtLeast, Ended}
use Rattle.acta_debug.specs.declared.breaks.Stop.{Stop}
use Rattle.acta_debug.specs.declared.breaks.Stop.TheVariants.{Broke, Finished}
use Rattle.acta_debug.specs.declared.errors.MoveError.{MoveError}
use Rattle.acta_debug.specs.declared.errors.MoveError.TheVariants.{AtEnd, AtStart, OutOfRange, Memory}
use Rattle.acta_debug.specs.Histories.{state_at}
use Rattle.acta_debug.specs.Moves.{gone_to, stepped, stepped_back, with_break, without_breaks}
use Rattle.acta_debug.specs.Sessions.{Session}
use Rattle.acta_debug.specs.Stops.{run_to_stop, stop_of}
use Rattle.acta_script.specs.Answers.{owed_line}
use Rattle.acta_trace.specs.States.{status_line, value_line}
use Rattle.acta_script.specs.declared.commands.BreakOn.{BreakOn}
use Rattle.acta_script.specs.declared.commands.BreakOn.TheVariants as on
use Rattle.acta_script.specs.declared.commands.DebugCommand.{DebugCommand}
use Rattle.acta_script.specs.declared.commands.DebugCommand.TheVariants as command

-- the break that a command names
abbrev pub break_of : BreakOn → Break
break_of (on.Kind kind) = Kind kind
break_of (on.Txn t) = Touches t
break_of (on.Object ob) = Object ob
break_of (on.Owed n) = OwedAtLeast n
break_of (on.Ended t) = Ended t

-- the session after a move; unchanged if the move can't be made
abbrev pub moved : {A : Type 0} → Session A → Result (Session A) MoveError → Session A
moved s (Ok t) = t
moved s (Err e) = s

-- at N
abbrev pub at_line : ℕ → List ℕ
at_line n = line_of (codes "at" ∷ decimal n ∷ [])

-- the word for why a move can't be made; lack of memory has none
abbrev pub error_word : MoveError → List ℕ
error_word AtEnd = codes "AtEnd"
error_word AtStart = codes "AtStart"
error_word OutOfRange = codes "OutOfRange"
error_word Memory = []

-- no ERROR
abbrev pub barred_line : MoveError → List ℕ
barred_line e = line_of (codes "no" ∷ error_word e ∷ [])

-- the reply to a move
abbrev pub move_line : {A : Type 0} → Result (Session A) MoveError → List ℕ
move_line (Ok s) = at_line s.at
move_line (Err e) = barred_line e

-- break B at N, or end N, for a run over a history of this many events
abbrev pub run_line : ℕ → Stop → List ℕ
run_line last (Broke b n) = line_of (codes "break" ∷ decimal b ∷ codes "at" ∷ decimal n ∷ [])
run_line last Finished = line_of (codes "end" ∷ decimal last ∷ [])

-- break B set
abbrev pub set_line : ℕ → List ℕ
set_line b = line_of (codes "break" ∷ decimal b ∷ codes "set" ∷ [])

-- the machine at the place of the debugger
abbrev pub here : {A : Type 0} → Session A → State A
here s = state_at s.model s.history s.at

-- the reply to a command: one line, except for debts, which have one line each
unfoldable pub reported_by : {A : Type 0} → Session A → DebugCommand → List (List ℕ)
reported_by s command.Step = move_line (stepped s) ∷ []
reported_by s command.Back = move_line (stepped_back s) ∷ []
reported_by s (command.Goto n) = move_line (gone_to s n) ∷ []
reported_by s command.Run = run_line (length s.history) (stop_of s) ∷ []
reported_by s (command.Break b) = set_line (length (with_break s (break_of b)).breaks) ∷ []
reported_by s command.Clear = codes "cleared" ∷ []
reported_by s (command.Value ob) = value_line (here s) ob ∷ []
reported_by s (command.Status t) = status_line (here s) t ∷ []
reported_by s command.Owed = map owed_line (debts_in (here s))

-- the debugger after a command
unfoldable pub behind : {A : Type 0} → Session A → DebugCommand → Session A
behind s command.Step = moved s (stepped s)
behind s command.Back = moved s (stepped_back s)
behind s (command.Goto n) = moved s (gone_to s n)
behind s command.Run = run_to_stop s
behind s (command.Break b) = with_break s (break_of b)
behind s command.Clear = without_breaks s
behind s (command.Value ob) = s
behind s (command.Status t) = s
behind s command.Owed = s

-- the replies to commands, one after another
abbrev pub texts_of : {A : Type 0} → Session A → List DebugCommand → List (List ℕ)
texts_of s [] = []
texts_of s (c ∷ cs) = reported_by s c ++ texts_of (behind s c) cs
