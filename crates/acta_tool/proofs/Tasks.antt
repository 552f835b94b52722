-- What may come of a task, by what its driven run answers.
use Rattle.std.proofs.Common.{◌≡◌, true, false, List, ℕ, refl, sym, ap, subst, ◌∙◌, true≢false}
use Rattle.std.specs.Prelude.{◌≢◌, codes, if◌then◌else◌, Option, Some, None, Result, Ok, Err, IfOk, IfErr, IfSome}
use Rattle.acta_table.specs.declared.event.Event.{Event}
use Rattle.acta_words.specs.Text.{text_of}
use Rattle.acta_locked.specs.declared.run.DriveError.{DriveError}
use Rattle.acta_locked.specs.declared.run.DriveError.TheVariants.{NoWorker, TooManyWorkers, TooManyEvents, Memory, NoThread, GaveUp, Unsettled}
use Rattle.acta_locked.specs.declared.run.Driven.{Driven}
use Rattle.acta_locked.specs.declared.watch.Front.{Front}
use Rattle.acta_locked.specs.declared.watch.Watched.{Watched}
use Rattle.acta_locked.specs.Drives.{IsDriven, MayFail, is_of_scripts, scripts_fault}
use Rattle.acta_tool.specs.declared.args.Command.{Command}
use Rattle.acta_io.specs.declared.outcome.Outcome.{Outcome}
use Rattle.acta_io.specs.declared.outcome.Outcome.TheVariants.{Done, Refused, Unread, Unwritten}
use Rattle.acta_io.specs.Outcome.{Answers}
use Rattle.acta_io.specs.Reports.{Output}
use Rattle.acta_tool.specs.Driving.{AnswersOne, AreAsked, MayCome, MayWrite, Task, book_lines, is_stop, is_too_long, unless_too_long}
use Rattle.acta_io.specs.declared.reports.Report.{Report}
use Rattle.acta_tool.specs.inside.Reports.{MayComeOf}
use Rattle.acta_io.specs.inside.Reports.{output_of}

-- the task, by its fault
abbrev by_fault : {A : Type 0} → Task A → Option DriveError → Result (Task A) (List ℕ)
by_fault task fault = if is_too_long fault then Err (codes "drive fault 3") else Ok task

free_kept : {A : Type 0} (task : Task A) (fault : Option DriveError) → scripts_fault task.scripts ≡ fault → ((e : DriveError) → scripts_fault task.scripts ≡ Some e → ⊥) → by_fault task fault ≡ Ok task
free_kept task None is free = refl
free_kept task (Some e) is free = absurd (free e is)

none_of : {A : Type 0} (task : Task A) (fault : Option DriveError) → scripts_fault task.scripts ≡ fault → ((e : DriveError) → scripts_fault task.scripts ≡ Some e → ⊥) → fault ≡ None
none_of task None is free = refl
none_of task (Some e) is free = absurd (free e is)

-- a run with a result has no error, and an error is the run's own
never : {T E : Type 0} (x : T) (e : E) → Ok x ≡ Err e → ⊥
never x e h = cc

one_error : {T E : Type 0} (e f : E) → ◌≡◌ {A = Result T E} (Err e) (Err f) → f ≡ e
one_error e f h = cc

-- where no call may be stopped, no gate stopped a worker
pub unstopped : {A : Type 0} (scripts : List (List (Event A))) (e : DriveError) → MayFail (λ seat k. ⊥) scripts e → is_stop e ≡ false
unstopped scripts NoWorker may = refl
unstopped scripts TooManyWorkers may = refl
unstopped scripts TooManyEvents may = refl
unstopped scripts Memory may = refl
unstopped scripts NoThread may = refl
unstopped scripts (GaveUp seat) may = absurd may.2.3
unstopped scripts Unsettled may = refl

-- lack of memory may always come
pub short : {A : Type 0} (found : Result (Task A) (List ℕ)) (e : DriveError) → e ≡ Memory → MayCome found (Err e)
short (Ok task) e is = ((λ of_scripts. absurd (true≢false (sym of_scripts ∙ ap is_of_scripts is))), ap is_stop is)
short (Err line) e is = is

-- a run with a result is reported
pub driven : {A : Type 0} (task : Task A) (d : Driven A) (fs : List (Front A)) (r : Result (Report A) DriveError) → ((e : DriveError) → scripts_fault task.scripts ≡ Some e → Ok (let w : Watched A = record { driven = d; fronts = fs } in w) ≡ Err e) → IsDriven task.model task.scripts d → AreAsked task d fs
    → IfOk r (λ report. output_of report ≡ record { is_refused = false; text = text_of (book_lines d.book fs) }) → IfErr r (λ e. e ≡ Memory) → MayComeOf (unless_too_long task) r
driven {A} task d fs (Ok report) blocked is asked reported memory =
    let free : (e : DriveError) → scripts_fault task.scripts ≡ Some e → ⊥ = λ e has. never (let w : Watched A = record { driven = d; fronts = fs } in w) e (blocked e has) in
    subst (λ found. MayCome found (Ok (output_of report))) (sym (free_kept task (scripts_fault task.scripts) refl free))
    (none_of task (scripts_fault task.scripts) refl free, d, is, fs, asked, reported)
driven task d fs (Err e) blocked is asked reported memory = short (unless_too_long task) e memory

undriven_by : {A : Type 0} (task : Task A) (e : DriveError) (fault : Option DriveError) → scripts_fault task.scripts ≡ fault → (is_of_scripts e ≡ true → scripts_fault task.scripts ≡ Some e) → is_stop e ≡ false
    → ((f : DriveError) → scripts_fault task.scripts ≡ Some f → ◌≡◌ {A = Result (Watched A) DriveError} (Err e) (Err f)) → e ≢ TooManyEvents → MayCome (by_fault task fault) (Err e)
undriven_by task e None is only passed blocked kept = (only, passed)
undriven_by task e (Some NoWorker) is only passed blocked kept = (only, passed)
undriven_by task e (Some TooManyWorkers) is only passed blocked kept = (only, passed)
undriven_by task e (Some TooManyEvents) is only passed blocked kept = absurd (kept (sym (one_error e TooManyEvents (blocked TooManyEvents is))))
undriven_by task e (Some Memory) is only passed blocked kept = (only, passed)
undriven_by task e (Some NoThread) is only passed blocked kept = (only, passed)
undriven_by task e (Some (GaveUp seat)) is only passed blocked kept = (only, passed)
undriven_by task e (Some Unsettled) is only passed blocked kept = (only, passed)

-- a run without a result returns its error, unless there are too many events
pub undriven : {A : Type 0} (task : Task A) (e : DriveError) → (is_of_scripts e ≡ true → scripts_fault task.scripts ≡ Some e) → is_stop e ≡ false → ((f : DriveError) → scripts_fault task.scripts ≡ Some f → ◌≡◌ {A = Result (Watched A) DriveError} (Err e) (Err f))
    → e ≢ TooManyEvents → MayCome (unless_too_long task) (Err e)
undriven task e only passed blocked kept = undriven_by task e (scripts_fault task.scripts) refl only passed blocked kept

-- a report that was written answers, for the bytes that were read
answered : (outcome : Outcome) (May : Result Output DriveError → Type 0) (out : Output) (old new : Option (List ℕ)) → May (Ok out) → Answers outcome out old new → AnswersOne (Ok outcome) May old new
answered Done May out old new may h = (out, may, h)
answered Refused May out old new may h = (out, may, h)
answered (Unread reason) May out old new may h = tt
answered Unwritten May out old new may h = tt

pub written : (A : Type 0) (command : Command) (model bytes : List ℕ) (left : Option (List ℕ)) (outcome : Outcome) (out : Output) (old new : Option (List ℕ)) → IfSome left (λ xs. bytes ≡ xs)
    → MayWrite A command model bytes (Ok out) → Answers outcome out old new → IfSome left (λ xs. AnswersOne (Ok outcome) (MayWrite A command model xs) old new)
written A command model bytes None outcome out old new read may h = tt
written A command model bytes (Some xs) outcome out old new read may h =
    answered outcome (MayWrite A command model xs) out old new (subst (λ input. MayWrite A command model input (Ok out)) read may) h
