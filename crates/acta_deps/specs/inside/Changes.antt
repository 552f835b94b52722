-- Changes of one transaction's status.
use Rattle.std.specs.Prelude.{ℕ, List, Option}
use Rattle.acta_table.specs.declared.dep.Edge.{Edge}
use Rattle.acta_table.specs.declared.answer.Refusal.{Refusal}
use Rattle.acta_table.specs.declared.answer.Status.{Status}
use Rattle.acta_deps.specs.declared.clash.Change.{Change}
use Rattle.acta_deps.specs.Deps.{DepState, status_of}
use Rattle.acta_deps.specs.Statuses.{with_status}
use Rattle.acta_deps.specs.Dependencies.{refusal_to}

-- the statuses after the change
abbrev pub status_after : DepState → Change → ℕ → Status
status_after d change = with_status (status_of d) change.txn.0 change.status

-- the lowest rule that the change would break
abbrev pub refusal_upon : (ℕ → Status) → List Edge → Change → Option Refusal
refusal_upon status edges change = refusal_to status edges change.txn.0 change.status
