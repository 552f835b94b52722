-- The results of the workers, combined.
use Rattle.std.proofs.Common.{◌≡◌, ℕ, suc, ◌-◌, ◌≤◌, false, List, [], ◌∷◌, length, get_or, refl, sym, subst, arith}
use Rattle.std.specs.Prelude.{Result, Ok, Err, IfOk, sum_by}
use Rattle.acta_table.specs.declared.event.Event.{Event}
use Rattle.acta_locked.specs.declared.book.Entry.{Entry}
use Rattle.acta_locked.specs.declared.run.DriveError.{DriveError}
use Rattle.acta_locked.specs.declared.worker.Report.{Report}
use Rattle.acta_locked.specs.declared.worker.WorkError.{WorkError}
use Rattle.acta_locked.specs.declared.worker.WorkError.TheVariants.{BookFull, GaveUp, Memory}
use Rattle.acta_locked.specs.Desks.{IsReport}
use Rattle.acta_locked.specs.Drives.{EachLetOn, MayFail, fault_by, is_of_scripts}
use Rattle.acta_locked.specs.Gates.{LetOn}
use Rattle.acta_locked.specs.inside.Outcomes.{IsOfGate, IsOutcome, MayEnd}

let_on-weaker : {X : Type 0} (P pass : ℕ → Type 0) (Q go_on : ℕ → X → Type 0) → ((k : ℕ) → P k → pass k) → ((k : ℕ) (e : X) → Q k e → go_on k e) → (k : ℕ) (es : List X) → LetOn P Q k es → LetOn pass go_on k es
let_on-weaker P pass Q go_on p q k [] all = tt
let_on-weaker P pass Q go_on p q k (e ∷ es) all = (p k all.0, q k e all.1, let_on-weaker P pass Q go_on p q (suc k) es all.2)

-- a worker's result is an outcome of its seat
module _ {A : Type 0} (S P : ℕ → ℕ → Type 0) (Q : ℕ → ℕ → Entry A → Type 0) (stop pass : ℕ → ℕ → Type 0) (go_on : ℕ → ℕ → Entry A → Type 0) (seat : ℕ) (script : List (Event A)) (of : IsOfGate S P Q stop pass go_on) where
  outcome : (r : Result (Report A) WorkError) → IfOk r (λ report. IsReport (λ e. e.seat) (λ e. e.event) seat script report) → IfOk r (λ report. LetOn (P seat) (Q seat) 1 report.entries)
      → ((n : ℕ) → r ≡ Err (GaveUp n) → n ≡ seat) → ((n : ℕ) → r ≡ Err (GaveUp n) → (k : ℕ) × (1 ≤ k) × (k ≤ length script) × S n k)
      → IsOutcome stop pass go_on seat script r
  outcome (Ok report) reports let_on gave_up stopped = (reports, let_on-weaker (P seat) (pass seat) (Q seat) (go_on seat) (of.1 seat) (of.2 seat) 1 report.entries let_on)
  outcome (Err (GaveUp n)) reports let_on gave_up stopped =
      let at = stopped n refl in
      (gave_up n refl, (at.0, at.1, at.2, of.0 n at.0 at.3))
  outcome (Err BookFull) reports let_on gave_up stopped = tt
  outcome (Err Memory) reports let_on gave_up stopped = tt

  pub outcome-of : (given : List (Event A)) (r : Result (Report A) WorkError) → script ≡ given → IfOk r (λ report. IsReport (λ e. e.seat) (λ e. e.event) seat script report) → IfOk r (λ report. LetOn (P seat) (Q seat) 1 report.entries)
      → ((n : ℕ) → r ≡ Err (GaveUp n) → n ≡ seat) → ((n : ℕ) → r ≡ Err (GaveUp n) → (k : ℕ) × (1 ≤ k) × (k ≤ length script) × S n k)
      → IsOutcome stop pass go_on seat given r
  outcome-of given r same reports let_on gave_up stopped = subst (λ s. IsOutcome stop pass go_on seat s r) same (outcome r reports let_on gave_up stopped)

-- a worker without a report determines the run's error
fault-late : (w : WorkError) → is_of_scripts (fault_by w) ≡ false
fault-late (GaveUp n) = refl
fault-late BookFull = refl
fault-late Memory = refl

fault-may : {A : Type 0} (stop pass : ℕ → ℕ → Type 0) (go_on : ℕ → ℕ → Entry A → Type 0) (scripts : List (List (Event A))) (seat : ℕ) (w : WorkError) → 1 ≤ seat → seat ≤ length scripts
    → IsOutcome stop pass go_on seat (get_or scripts (seat - 1) []) (Err w) → MayFail stop scripts (fault_by w)
fault-may stop pass go_on scripts seat (GaveUp n) first within (is, stopped) =
    let j = stopped.0 in
    (omega (arith, is, first), omega (arith, is, within), (j, stopped.1, subst (λ p. j ≤ length (get_or scripts (p - 1) [])) (sym is) stopped.2, stopped.3))
fault-may stop pass go_on scripts seat BookFull first within free = tt
fault-may stop pass go_on scripts seat Memory first within free = tt

pub failed : {A : Type 0} (stop pass : ℕ → ℕ → Type 0) (go_on : ℕ → ℕ → Entry A → Type 0) (scripts : List (List (Event A))) (seat : ℕ) (w : WorkError) (e : DriveError) → 1 ≤ seat → seat ≤ length scripts
    → IsOutcome stop pass go_on seat (get_or scripts (seat - 1) []) (Err w) → e ≡ fault_by w → MayEnd stop scripts e
failed stop pass go_on scripts seat w e first within out is =
    subst (MayEnd stop scripts) (sym is) (fault-late w, fault-may stop pass go_on scripts seat w first within out)

-- where there is no report, each is as it should be
pub none-let_on : {A : Type 0} (P : ℕ → ℕ → Type 0) (Q : ℕ → ℕ → Entry A → Type 0) (rs : List (Report A)) → length rs ≡ 0 → EachLetOn P Q rs
none-let_on P Q [] none = tt
none-let_on P Q (r ∷ rs) none = absurd (omega (arith, none))

pub none-counted : {A : Type 0} (rs : List (Report A)) → length rs ≡ 0 → 0 ≡ sum_by (λ (r : Report A). length r.entries) rs
none-counted [] none = refl
none-counted (r ∷ rs) none = absurd (omega (arith, none))
