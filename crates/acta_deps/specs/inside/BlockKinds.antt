-- The test that each kind of block applies to an edge, and which transaction it blocks.
use Rattle.std.specs.Prelude.{ℕ, Bool, ◌&&◌, ◌==◌, false, List, Option, Some, None, is_some}
use Rattle.acta_table.specs.declared.dep.Dep.{Dep}
use Rattle.acta_table.specs.declared.dep.Edge.{Edge}
use Rattle.acta_table.specs.declared.event.TxnId.{TxnId}
use Rattle.acta_table.specs.Edges.{is_among}
use Rattle.acta_table.specs.declared.answer.Status.{Status}
use Rattle.acta_deps.specs.declared.block_kind.BlockKind.{BlockKind}
use Rattle.acta_deps.specs.declared.block_kind.BlockKind.TheVariants.{AwaitsBegin, AwaitsEnd, AwaitsCommit, AwaitsAbort, EndsAfter, CommittedFirst, BeganFirst, CannotPayCommit, CannotPayAbort, OwesCommit, OwesAbort}
use Rattle.acta_table.specs.declared.dep.Missing.{Missing}
use Rattle.acta_table.specs.declared.dep.Missing.TheVariants.{Commit, Abort}
use Rattle.acta_deps.specs.Debts.{debt_of, owes_commit, owes_abort, owes_both}
use Rattle.acta_deps.specs.Dependencies.{awaits_begin, awaits_end, awaits_commit, awaits_abort, ends_after, committed_first, began_first, cannot_pay_commit, cannot_pay_abort, depends, is_awaited}

-- whether the edge blocks an event of t in this way
abbrev pub blocks : BlockKind → (ℕ → Status) → ℕ → Edge → Bool
blocks AwaitsBegin = depends awaits_begin
blocks AwaitsEnd = depends awaits_end
blocks AwaitsCommit = depends awaits_commit
blocks AwaitsAbort = depends awaits_abort
blocks EndsAfter = depends ends_after
blocks CommittedFirst = is_awaited committed_first
blocks BeganFirst = is_awaited began_first
blocks CannotPayCommit = is_awaited cannot_pay_commit
blocks CannotPayAbort = is_awaited cannot_pay_abort
blocks OwesCommit = owes_commit
blocks OwesAbort = owes_abort

-- the transaction of the edge that this kind of block can block
abbrev pub party : BlockKind → Edge → ℕ
party CommittedFirst e = e.i.0
party BeganFirst e = e.i.0
party CannotPayCommit e = e.i.0
party CannotPayAbort e = e.i.0
party _ e = e.j.0

-- whether t owes the event because of this edge
abbrev pub owes : Missing → (ℕ → Status) → ℕ → Edge → Bool
owes Commit = owes_commit
owes Abort = owes_abort

-- whether t owes the event because of an edge of this kind on i
abbrev pub owes_by_kind : Missing → (ℕ → Status) → List Edge → TxnId → TxnId → Dep → Bool
owes_by_kind missing status edges i t kind =
    is_among edges (record { kind = kind; j = t; i = i }) && owes missing status t.0 (record { kind = kind; j = t; i = i })

-- whether t owes the event because of this edge, which is on i
abbrev pub owes_upon : Missing → (ℕ → Status) → ℕ → ℕ → Edge → Bool
owes_upon missing status i t e = (e.i.0 == i) && owes missing status t e

-- whether the other event is owed too, given which event is owed
abbrev pub other_of : Option Missing → Bool → Bool → Bool
other_of None commit abort = false
other_of (Some Commit) commit abort = abort
other_of (Some Abort) commit abort = commit

-- whether the edge depends on t, and its dependent has a debt by it and owes both events
abbrev pub would_owe_both : (ℕ → Status) → List Edge → ℕ → Edge → Bool
would_owe_both status edges t e = (e.i.0 == t) && is_some (debt_of status e) && owes_both status edges e.j.0
