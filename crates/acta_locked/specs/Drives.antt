-- The result of a driven run of scripts, and its errors.
use Rattle.std.specs.Prelude.{◌≡◌, ◌==◌, ◌-◌, ◌≤◌, ℕ, suc, Bool, true, false, List, [], ◌∷◌, length, get_or, sum_by}
use Rattle.std.specs.Prelude.{Option, Some, None, ⊤, nat_lt, if◌then◌else◌}
use Rattle.std.specs.List.{AllByRecursion}
use Rattle.acta_table.specs.declared.event.Event.{Event}
use Rattle.acta_table.specs.declared.limits.TheConstants.{MOST_EVENTS}
use Rattle.acta_table.specs.declared.model.Parts.{Parts}
use Rattle.acta_locked.specs.declared.limits.TheConstants.{MOST_WORKERS}
use Rattle.acta_locked.specs.declared.run.DriveError.{DriveError}
use Rattle.acta_locked.specs.declared.run.DriveError.TheVariants.{NoWorker, TooManyWorkers, TooManyEvents, Memory, GaveUp, Unsettled}
use Rattle.acta_locked.specs.declared.book.Entry.{Entry}
use Rattle.acta_locked.specs.declared.run.Driven.{Driven}
use Rattle.acta_locked.specs.declared.worker.Report.{Report}
use Rattle.acta_locked.specs.declared.worker.WorkError.{WorkError}
use Rattle.acta_locked.specs.declared.worker.WorkError.TheVariants as work
use Rattle.acta_locked.specs.Books.{Entries, IsRun, events_of, seat_part}
use Rattle.acta_locked.specs.Gates.{LetOn}

-- why scripts are not run: there is none, there are more than 16, or together they have more than 65,536 events
abbrev pub scripts_fault : {A : Type 0} → List (List (Event A)) → Option DriveError
scripts_fault scripts =
    if length scripts == 0 then Some NoWorker
    else if nat_lt MOST_WORKERS (length scripts) then Some TooManyWorkers
    else if nat_lt MOST_EVENTS (sum_by length scripts) then Some TooManyEvents
    else None

-- whether the fault is one of the three
abbrev pub is_of_scripts : DriveError → Bool
is_of_scripts NoWorker = true
is_of_scripts TooManyWorkers = true
is_of_scripts TooManyEvents = true
is_of_scripts _ = false

-- the run's error if a worker has no report for this reason; a worker at a full book has no report, so the run is
-- `Unsettled`
abbrev pub fault_by : WorkError → DriveError
fault_by (work.GaveUp seat) = GaveUp seat
fault_by work.BookFull = Unsettled
fault_by work.Memory = Memory

-- the report of a seat is its part of the book, and the part's events are its script
pub record IsPart {A : Type 0} (b : Entries A) (seat : ℕ) (script : List (Event A)) (r : Report A) : Type 0 where
  pub seat_is : r.seat ≡ seat
  pub entries_are : r.entries ≡ seat_part seat b.entries
  pub events_are : events_of (seat_part seat b.entries) ≡ script

-- the same for the seats from this one on, with as many reports as scripts
abbrev pub AreParts : {A : Type 0} → Entries A → ℕ → List (List (Event A)) → List (Report A) → Type 0
AreParts b seat [] [] = ⊤
AreParts b seat [] (r ∷ rs) = ⊥
AreParts b seat (s ∷ ss) [] = ⊥
AreParts b seat (s ∷ ss) (r ∷ rs) = IsPart b seat s r × AreParts b (suc seat) ss rs

-- a driven run: its book is a run of the model, with as many entries as the workers made calls, and the report of each seat,
-- from 1, is its part of the book and answers its script
pub record IsDriven {A : Type 0} (m : Parts A) (scripts : List (List (Event A))) (d : Driven A) : Type 0 where
  pub model : d.book.model ≡ m
  pub run : IsRun d.book
  pub counted : length d.book.entries ≡ sum_by length scripts
  pub each : AreParts d.book 1 scripts d.reports

-- the gate allowed each call of each report
abbrev pub EachLetOn : {A : Type 0} → (ℕ → ℕ → Type 0) → (ℕ → ℕ → Entry A → Type 0) → List (Report A) → Type 0
EachLetOn may_pass may_go_on reports =
    AllByRecursion (λ r. LetOn (may_pass r.seat) (may_go_on r.seat) 1 r.entries) reports

-- the seat belongs to the run, and the gate may stop its worker at one of its calls
abbrev pub MayGiveUp : {A : Type 0} → (ℕ → ℕ → Type 0) → List (List (Event A)) → ℕ → Type 0
MayGiveUp may_stop scripts seat =
    (1 ≤ seat) × (seat ≤ length scripts)
    × ((k : ℕ) × (1 ≤ k) × (k ≤ length (get_or scripts (seat - 1) [])) × may_stop seat k)

-- what an error of a run implies: nothing for memory, threads and unsettled runs; the errors of scripts are defined
-- elsewhere
abbrev pub MayFail : {A : Type 0} → (ℕ → ℕ → Type 0) → List (List (Event A)) → DriveError → Type 0
MayFail may_stop scripts (GaveUp seat) = MayGiveUp may_stop scripts seat
MayFail may_stop scripts _ = ⊤
