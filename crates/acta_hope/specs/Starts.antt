-- Transactions that can never begin.
use Rattle.std.specs.Prelude.{◌≡◌, ◌≢◌, ◌<◌, ◌≤◌, ℕ, Bool, true, false, ◌&&◌, List, length, get_or, Some}
use Rattle.acta_table.specs.declared.answer.Status.{Status}
use Rattle.acta_table.specs.declared.answer.Status.TheVariants.{NotBegun, Committed, Aborted, Joined}
use Rattle.acta_table.specs.declared.dep.Dep.{Dep}
use Rattle.acta_table.specs.declared.dep.Dep.TheVariants.{Sd, Bcd, Bad}
use Rattle.acta_table.specs.declared.dep.Edge.{Edge}
use Rattle.acta_table.specs.declared.event.Event.{Event}
use Rattle.acta_table.specs.Numbered.{item_at}
use Rattle.acta_deps.specs.Statuses.{is_new}
use Rattle.acta_machine.specs.Table.{State, after_all, status_in}

-- whether an edge of this kind keeps its dependent transaction from ever starting, if the other has this status: it has
-- ended in another way than the edge demands
abbrev pub bars_start : Dep → Status → Bool
bars_start Bad Committed = true
bars_start Bcd Aborted = true
bars_start Sd Joined = true
bars_start Bcd Joined = true
bars_start Bad Joined = true
bars_start _ _ = false

-- whether the edge keeps its dependent transaction, which has not begun, from ever beginning
abbrev pub is_lost_by : (ℕ → Status) → Edge → Bool
is_lost_by status e = is_new (status e.j.0) && bars_start e.kind (status e.i.0)

-- whatever events come, the transaction does not begin
abbrev pub NeverBegins : {A : Type 0} → State A → ℕ → Type 0
NeverBegins {A} state t = (es : List (Event A)) → status_in (after_all state es) t ≡ NotBegun

-- each transaction with a number other than 0 never begins
abbrev pub AreLost : {A : Type 0} → State A → List ℕ → Type 0
AreLost state lost = (t : ℕ) → get_or lost t 0 ≢ 0 → NeverBegins state t

-- each number is that of an edge that keeps the transaction from ever beginning
abbrev pub AreNamed : (ℕ → Status) → List Edge → List ℕ → Type 0
AreNamed status edges lost =
    (t : ℕ) → get_or lost t 0 ≢ 0
    → (e : Edge) × (item_at edges (get_or lost t 0) ≡ Some e) × (e.j.0 ≡ t) × (is_lost_by status e ≡ true)

-- no edge with a higher number keeps the transaction from ever beginning
abbrev pub AreLast : (ℕ → Status) → List Edge → List ℕ → Type 0
AreLast status edges lost =
    (number : ℕ) (e : Edge) → e.j.0 < length lost → item_at edges number ≡ Some e → is_lost_by status e ≡ true
    → number ≤ get_or lost e.j.0 0
