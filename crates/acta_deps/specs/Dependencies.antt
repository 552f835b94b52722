-- The rules on dependencies. Each but the clash tests single edges: the kind, whether t is the j or the i of the edge,
-- and the status of the other transaction. The rule names the first edge that passes the test.
use Rattle.std.specs.Prelude.{ℕ, Bool, false, not, ◌&&◌, ◌||◌, ◌==◌, List, [], ◌∷◌, Option, None}
use Rattle.acta_table.specs.declared.dep.Dep.{Dep}
use Rattle.acta_table.specs.declared.dep.Dep.TheVariants.{Cd, Scd, Ad, Wd, Td, Ed, Cmd, Bd, Sd, Bcd, Bad, Wcd}
use Rattle.acta_table.specs.declared.dep.Edge.{Edge}
use Rattle.acta_table.specs.declared.answer.Status.{Status}
use Rattle.acta_table.specs.declared.answer.Status.TheVariants.{NotBegun, InProgress, Committed, Aborted, Joined}
use Rattle.acta_table.specs.declared.answer.Rule.TheVariants.{BeginDep, SerialDep, BeginOnCommit, BeginOnAbort, TerminationDep, OwesAbort, OwesCommit, CommitOrder, WeakBegin, Unpayable, Clash}
use Rattle.acta_table.specs.declared.answer.Refusal.{Refusal}
use Rattle.acta_table.specs.Numbered.{first_number}
use Rattle.acta_table.specs.Refusals.{broken_by, first_of}
use Rattle.acta_deps.specs.Statuses.{has_begun, has_committed, has_aborted, has_joined, is_decided, with_status}
use Rattle.acta_deps.specs.Debts.{owes_commit, owes_abort, clashing}

-- by an edge of this kind, j cannot start yet, since i has not begun
abbrev pub awaits_begin : Dep → Status → Bool
awaits_begin Bd i = not (has_begun i)
awaits_begin _ i = false

-- j cannot start until i has committed or aborted
abbrev pub awaits_end : Dep → Status → Bool
awaits_end Sd i = not (is_decided i)
awaits_end _ i = false

-- j cannot start until i has committed
abbrev pub awaits_commit : Dep → Status → Bool
awaits_commit Bcd i = not (has_committed i)
awaits_commit _ i = false

-- j cannot start until i has aborted
abbrev pub awaits_abort : Dep → Status → Bool
awaits_abort Bad i = not (has_aborted i)
awaits_abort _ i = false

-- j cannot commit or abort until i has committed or aborted
abbrev pub ends_after : Dep → Status → Bool
ends_after Td i = not (is_decided i)
ends_after _ i = false

-- j has committed, but had to commit after i
abbrev pub committed_first : Dep → Status → Bool
committed_first Cd j = has_committed j
committed_first _ j = false

-- j has begun, but had to begin after the commit of i
abbrev pub began_first : Dep → Status → Bool
began_first Wcd j = has_begun j
began_first _ j = false

-- i's commit would make j owe an event that j, having ended otherwise, can no longer do
abbrev pub cannot_pay_commit : Dep → Status → Bool
cannot_pay_commit Scd j = has_aborted j || has_joined j
cannot_pay_commit Ed j = has_committed j || has_joined j
cannot_pay_commit _ j = false

-- i's abort would make j owe an event that j, having ended otherwise, can no longer do; by WD a committed j owes
-- nothing
abbrev pub cannot_pay_abort : Dep → Status → Bool
cannot_pay_abort Ad j = has_committed j || has_joined j
cannot_pay_abort Wd j = has_joined j
cannot_pay_abort Cmd j = has_aborted j || has_joined j
cannot_pay_abort _ j = false

-- whether t is the j of the edge, and the status of i passes the test
abbrev pub depends : (Dep → Status → Bool) → (ℕ → Status) → ℕ → Edge → Bool
depends by status t e = (e.j.0 == t) && by e.kind (status e.i.0)

-- whether t is the i of the edge, and the status of j passes the test
abbrev pub is_awaited : (Dep → Status → Bool) → (ℕ → Status) → ℕ → Edge → Bool
is_awaited by status t e = (e.i.0 == t) && by e.kind (status e.j.0)

-- t would start before an i has begun
unfoldable pub begin_dep : (ℕ → Status) → List Edge → ℕ → Option Refusal
begin_dep status edges t = broken_by BeginDep (first_number (depends awaits_begin status t) edges)

-- t would start before an i has committed or aborted
unfoldable pub serial_dep : (ℕ → Status) → List Edge → ℕ → Option Refusal
serial_dep status edges t = broken_by SerialDep (first_number (depends awaits_end status t) edges)

-- t would start before an i has committed
unfoldable pub begin_on_commit : (ℕ → Status) → List Edge → ℕ → Option Refusal
begin_on_commit status edges t =
    broken_by BeginOnCommit (first_number (depends awaits_commit status t) edges)

-- t would start before an i has aborted
unfoldable pub begin_on_abort : (ℕ → Status) → List Edge → ℕ → Option Refusal
begin_on_abort status edges t =
    broken_by BeginOnAbort (first_number (depends awaits_abort status t) edges)

-- t would commit or abort before an i has committed or aborted
unfoldable pub termination_dep : (ℕ → Status) → List Edge → ℕ → Option Refusal
termination_dep status edges t =
    broken_by TerminationDep (first_number (depends ends_after status t) edges)

-- t would commit, or join another, although it owes an abort
unfoldable pub owing_abort : (ℕ → Status) → List Edge → ℕ → Option Refusal
owing_abort status edges t = broken_by OwesAbort (first_number (owes_abort status t) edges)

-- t would abort, or join another, although it owes a commit
unfoldable pub owing_commit : (ℕ → Status) → List Edge → ℕ → Option Refusal
owing_commit status edges t = broken_by OwesCommit (first_number (owes_commit status t) edges)

-- t would commit after a j that had to commit later
unfoldable pub commit_order : (ℕ → Status) → List Edge → ℕ → Option Refusal
commit_order status edges t =
    broken_by CommitOrder (first_number (is_awaited committed_first status t) edges)

-- t would commit after the begin of a j that had to begin later
unfoldable pub weak_begin : (ℕ → Status) → List Edge → ℕ → Option Refusal
weak_begin status edges t =
    broken_by WeakBegin (first_number (is_awaited began_first status t) edges)

-- t would commit, and a j that has ended could not do the event that it would owe
unfoldable pub unpayable_commit : (ℕ → Status) → List Edge → ℕ → Option Refusal
unpayable_commit status edges t =
    broken_by Unpayable (first_number (is_awaited cannot_pay_commit status t) edges)

-- t would abort, and a j that has ended could not do the event that it would owe
unfoldable pub unpayable_abort : (ℕ → Status) → List Edge → ℕ → Option Refusal
unpayable_abort status edges t =
    broken_by Unpayable (first_number (is_awaited cannot_pay_abort status t) edges)

-- once t has this status, some transaction would owe both a commit and an abort
unfoldable pub clash : (ℕ → Status) → List Edge → ℕ → Status → Option Refusal
clash status edges t s = broken_by Clash (clashing (with_status status t s) edges)

-- the lowest rule that the start of t would break
unfoldable pub start_refusal : (ℕ → Status) → List Edge → ℕ → Option Refusal
start_refusal status edges t = first_of (
    begin_dep status edges t
    ∷ serial_dep status edges t
    ∷ begin_on_commit status edges t
    ∷ begin_on_abort status edges t
    ∷ clash status edges t InProgress
    ∷ [])

-- the lowest rule that the commit of t would break
unfoldable pub commit_refusal : (ℕ → Status) → List Edge → ℕ → Option Refusal
commit_refusal status edges t = first_of (
    termination_dep status edges t
    ∷ owing_abort status edges t
    ∷ commit_order status edges t
    ∷ weak_begin status edges t
    ∷ unpayable_commit status edges t
    ∷ clash status edges t Committed
    ∷ [])

-- the lowest rule that the abort of t would break
unfoldable pub abort_refusal : (ℕ → Status) → List Edge → ℕ → Option Refusal
abort_refusal status edges t = first_of (
    termination_dep status edges t
    ∷ owing_commit status edges t
    ∷ unpayable_abort status edges t
    ∷ clash status edges t Aborted
    ∷ [])

-- the lowest rule that t would break by joining another
unfoldable pub join_refusal : (ℕ → Status) → List Edge → ℕ → Option Refusal
join_refusal status edges t =
    first_of (owing_abort status edges t ∷ owing_commit status edges t ∷ [])

-- the lowest rule that t would break by getting this status
abbrev pub refusal_to : (ℕ → Status) → List Edge → ℕ → Status → Option Refusal
refusal_to status edges t NotBegun = None
refusal_to status edges t InProgress = start_refusal status edges t
refusal_to status edges t Committed = commit_refusal status edges t
refusal_to status edges t Aborted = abort_refusal status edges t
refusal_to status edges t Joined = join_refusal status edges t
