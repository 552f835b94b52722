-- The results of the threads of a driven run.
use Rattle.std.specs.Prelude.{◌≡◌, ◌≤◌, ℕ, Bool, true, false, List, length, Result, Ok, Err, ⊤}
use Rattle.acta_table.specs.declared.event.Event.{Event}
use Rattle.acta_table.specs.declared.event.Kept.{Kept}
use Rattle.acta_table.specs.declared.model.Parts.{Parts}
use Rattle.acta_locked.specs.declared.book.Entry.{Entry}
use Rattle.acta_locked.specs.declared.run.DriveError.{DriveError}
use Rattle.acta_locked.specs.declared.run.DriveError.TheVariants as drive
use Rattle.acta_locked.specs.declared.watch.Front.{Front}
use Rattle.acta_locked.specs.declared.worker.Report.{Report}
use Rattle.acta_locked.specs.declared.worker.WorkError.{WorkError}
use Rattle.acta_locked.specs.declared.worker.WorkError.TheVariants.{GaveUp}
use Rattle.acta_locked.specs.Desks.{IsReport}
use Rattle.acta_locked.specs.Drives.{MayFail, is_of_scripts}
use Rattle.acta_locked.specs.Fronts.{AreFronts}
use Rattle.acta_locked.specs.Gates.{LetOn}

-- a possible result of a worker with this seat and script at this gate
abbrev pub IsOutcome : {A : Type 0} → (ℕ → ℕ → Type 0) → (ℕ → ℕ → Type 0) → (ℕ → ℕ → Entry A → Type 0) → ℕ
    → List (Event A) → Result (Report A) WorkError → Type 0
IsOutcome may_stop may_pass may_go_on seat script (Ok report) =
    IsReport (λ e. e.seat) (λ e. e.event) seat script report × LetOn (may_pass seat) (may_go_on seat) 1 report.entries
IsOutcome may_stop may_pass may_go_on seat script (Err (GaveUp n)) =
    (n ≡ seat) × ((k : ℕ) × (1 ≤ k) × (k ≤ length script) × may_stop n k)
IsOutcome may_stop may_pass may_go_on seat script (Err _) = ⊤

-- whatever the first gate may do (stop, pass, go on), the second may do, too
abbrev pub IsOfGate : {A : Type 0} → (ℕ → ℕ → Type 0) → (ℕ → ℕ → Type 0) → (ℕ → ℕ → Entry A → Type 0) → (ℕ → ℕ → Type 0)
    → (ℕ → ℕ → Type 0) → (ℕ → ℕ → Entry A → Type 0) → Type 0
IsOfGate {A} may_stop may_pass may_go_on stop pass go_on =
    ((seat k : ℕ) → may_stop seat k → stop seat k) × ((seat k : ℕ) → may_pass seat k → pass seat k)
    × ((seat k : ℕ) (e : Entry A) → may_go_on seat k e → go_on seat k e)

-- the possible errors of a run whose scripts are valid
abbrev pub MayEnd : {A : Type 0} → (ℕ → ℕ → Type 0) → List (List (Event A)) → DriveError → Type 0
MayEnd may_stop scripts e = (is_of_scripts e ≡ false) × MayFail may_stop scripts e

-- whether the error implies nothing: memory, threads, or an unsettled run
abbrev pub is_free : DriveError → Bool
is_free drive.Memory = true
is_free drive.NoThread = true
is_free drive.Unsettled = true
is_free _ = false

-- the state of a judging thread: this many fronts, of its last copy of the history
abbrev pub AreSeen : {A : Type 0} → Parts A → ℕ → List (Kept A) → List (Front A) → Type 0
AreSeen m turns history fronts = (length fronts ≡ turns) × AreFronts m history fronts
