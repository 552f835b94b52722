-- The possible outputs of `drive`: those of all driven runs of the scripts that the lines give.
use Rattle.std.specs.Prelude.{◌≡◌, ⊤, ℕ, Bool, true, false, ◌==◌, List, [], ◌∷◌, ◌++◌, length, map, filter, codes, decimal, if◌then◌else◌, Option, Some, None, Result, Ok, Err}
use Rattle.std.specs.List.{range_with_len}
use Rattle.acta_table.specs.declared.event.Event.{Event}
use Rattle.acta_table.specs.declared.model.Parts.{Parts}
use Rattle.acta_words.specs.Text.{line_of, text_of}
use Rattle.acta_script.specs.declared.seated.Seated.{Seated}
use Rattle.acta_script.specs.Answers.{answer_line, owed_line}
use Rattle.acta_script.specs.Reading.{seated_of}
use Rattle.acta_script.specs.Writing.{event_line}
use Rattle.acta_machine.specs.Table.{debts_in}
use Rattle.acta_locked.specs.declared.book.Entry.{Entry}
use Rattle.acta_locked.specs.declared.run.DriveError.{DriveError}
use Rattle.acta_locked.specs.declared.run.DriveError.TheVariants.{GaveUp, Memory, TooManyEvents}
use Rattle.acta_locked.specs.declared.run.Driven.{Driven}
use Rattle.acta_locked.specs.Books.{Entries, state_of}
use Rattle.acta_locked.specs.declared.watch.Front.{Front}
use Rattle.acta_locked.specs.Drives.{IsDriven, is_of_scripts, scripts_fault}
use Rattle.acta_locked.specs.Fronts.{AreFronts}
use Rattle.acta_tool.specs.declared.args.Command.{Command}
use Rattle.acta_tool.specs.declared.args.Command.TheVariants.{Drive}
use Rattle.acta_io.specs.declared.models.NoModel.{NoModel}
use Rattle.acta_io.specs.declared.outcome.Outcome.{Outcome}
use Rattle.acta_io.specs.declared.outcome.Outcome.TheVariants.{Done, Refused, Unread, Unwritten}
use Rattle.acta_io.specs.declared.input.BadLine.{BadLine}
use Rattle.acta_io.specs.Models.{of_either}
use Rattle.acta_io.specs.Outcome.{Answers}
use Rattle.acta_io.specs.Reports.{Output, no_model_line, stop_line}
use Rattle.acta_io.specs.Input.{Parsed, parsed_in}

-- the script of a seat: the events of its lines, in order
abbrev pub script_of : {A : Type 0} → List (Seated A) → ℕ → List (Event A)
script_of parsed seat = map (λ s. s.event) (filter (λ s. s.seat == seat) parsed)

-- the scripts of the seats, from 1
abbrev pub scripts_of : {A : Type 0} → ℕ → List (Seated A) → List (List (Event A))
scripts_of workers parsed = map (script_of parsed) (range_with_len 1 workers)

-- NUMBER SEAT EVENT : ANSWER
unfoldable pub entry_line : {A : Type 0} → Parts A → Entry A → List ℕ
entry_line m e =
    line_of (decimal e.number ∷ decimal e.seat ∷ event_line m e.event ∷ codes ":" ∷ answer_line e.answer ∷ [])

-- front LENGTH FAULTS OWED
abbrev pub front_line : {A : Type 0} → Front A → List ℕ
front_line f =
    line_of (codes "front" ∷ decimal f.length ∷ decimal (length f.verdict.faults) ∷ decimal (length f.verdict.owed) ∷ [])

-- the lines of a book and of the fronts that were judged while it grew: its entries, the fronts, then the debts
abbrev pub book_lines : {A : Type 0} → Entries A → List (Front A) → List (List ℕ)
book_lines b fs = map (entry_line b.model) b.entries ++ (map front_line fs ++ map owed_line (debts_in (state_of b)))

-- the task of a driven run: a model, scripts, and how often the history is judged meanwhile
pub record Task (A : Type 0) : Type 0 where
  pub model : Parts A
  pub scripts : List (List (Event A))
  pub turns : ℕ

-- as many fronts as the task asks for, of the history of the run's book
pub record AreAsked {A : Type 0} (task : Task A) (d : Driven A) (fs : List (Front A)) : Type 0 where
  pub fronts : AreFronts task.model (state_of d.book).kept fs
  pub asked : length fs ≡ task.turns

-- whether the fault is that the scripts have more events than a book takes
abbrev pub is_too_long : Option DriveError → Bool
is_too_long (Some TooManyEvents) = true
is_too_long _ = false

-- whether the error is that a gate stopped a worker
abbrev pub is_stop : DriveError → Bool
is_stop (GaveUp seat) = true
is_stop _ = false

-- the task, or the line that refuses it if it has too many events
abbrev pub unless_too_long : {A : Type 0} → Task A → Result (Task A) (List ℕ)
unless_too_long task = if is_too_long (scripts_fault task.scripts) then Err (codes "drive fault 3") else Ok task

-- the task of the lines on a model, or the line for the first faulty one
abbrev pub task_by : {A : Type 0} → ℕ → ℕ → Parts A → List (Seated A) → Option BadLine → Result (Task A) (List ℕ)
task_by workers turns m parsed None = unless_too_long (record { model = m; scripts = scripts_of workers parsed; turns = turns })
task_by workers turns m parsed (Some b) = Err (stop_line b)

abbrev pub task_on : {A : Type 0} → ℕ → ℕ → Parts A → Parsed (Seated A) → Result (Task A) (List ℕ)
task_on workers turns m s = task_by workers turns m s.parsed s.stop

-- the task of the bytes of a model and of an input, for this many workers and turns, or the line that refuses it
abbrev pub task_of : {A : Type 0} → ℕ → ℕ → Result (Parts A) NoModel → List ℕ → Result (Task A) (List ℕ)
task_of workers turns (Err fault) input = Err (no_model_line fault)
task_of workers turns (Ok m) input = task_on workers turns m (parsed_in (seated_of m workers) input)

-- the possible results for a task or the line that refuses it. A task's output is that of some driven run, with any fronts
-- of its history; its error is a fault of the scripts only if they have it, and never that a gate gave up. A refusing line
-- is the output, unless memory ran out
abbrev pub MayCome : {A : Type 0} → Result (Task A) (List ℕ) → Result Output DriveError → Type 0
MayCome {A} (Ok task) (Ok out) =
    (scripts_fault task.scripts ≡ None) × (d : Driven A) × IsDriven task.model task.scripts d
    × (fs : List (Front A)) × AreAsked task d fs
    × (out ≡ record { is_refused = false; text = text_of (book_lines d.book fs) })
MayCome (Ok task) (Err e) = (is_of_scripts e ≡ true → scripts_fault task.scripts ≡ Some e) × (is_stop e ≡ false)
MayCome (Err line) (Ok out) = out ≡ record { is_refused = true; text = text_of (line ∷ []) }
MayCome (Err line) (Err e) = e ≡ Memory

-- the possible results of `drive` for the bytes of a model and of an input; A is the allocator's type
abbrev pub MayWrite : (A : Type 0) → Command → List ℕ → List ℕ → Result Output DriveError → Type 0
MayWrite A (Drive workers turns) model input left = MayCome {A = A} (task_of workers turns (of_either model) input) left
MayWrite A _ model input left = ⊥

-- if the input was answered, exactly one of the possible outputs was written; if no run was driven, the error is a possible
-- one
abbrev pub AnswersOne : Result Outcome DriveError → (Result Output DriveError → Type 0) → Option (List ℕ) → Option (List ℕ) → Type 0
AnswersOne (Ok Done) May old new = (out : Output) × May (Ok out) × Answers Done out old new
AnswersOne (Ok Refused) May old new = (out : Output) × May (Ok out) × Answers Refused out old new
AnswersOne (Ok (Unread reason)) May old new = ⊤
AnswersOne (Ok Unwritten) May old new = ⊤
AnswersOne (Err e) May old new = May (Err e)
