-- The events that transactions owe because of the edges in force. Debts depend on the statuses alone.
use Rattle.std.specs.Prelude.{ℕ, ◌+◌, Bool, true, false, ◌&&◌, ◌==◌, List, [], map, filter, ◌∷◌, Option, Some, None}
use Rattle.std.specs.List.{list_any, cons_option}
use Rattle.acta_table.specs.declared.dep.Dep.{Dep}
use Rattle.acta_table.specs.declared.dep.Dep.TheVariants.{Scd, Ad, Wd, Ed, Cmd}
use Rattle.acta_table.specs.declared.dep.Edge.{Edge}
use Rattle.acta_table.specs.declared.dep.Missing.{Missing}
use Rattle.acta_table.specs.declared.dep.Missing.TheVariants.{Commit, Abort}
use Rattle.acta_table.specs.declared.dep.Owed.{Owed}
use Rattle.acta_table.specs.declared.answer.Status.{Status}
use Rattle.acta_table.specs.Dependencies.{is_commit, is_abort}
use Rattle.acta_table.specs.Numbered.{smallest}
use Rattle.acta_deps.specs.Statuses.{has_committed, has_aborted, may_end, is_in_progress}

-- the missing event, if the test is true
abbrev pub missing_if : Bool → Missing → Option Missing
missing_if true missing = Some missing
missing_if false missing = None

-- the debt of j by an edge of this kind, from the statuses of i and j
abbrev pub debt_by : Dep → Status → Status → Option Missing
debt_by Scd i j = missing_if (has_committed i && may_end j) Commit
debt_by Ad i j = missing_if (has_aborted i && may_end j) Abort
debt_by Wd i j = missing_if (has_aborted i && may_end j) Abort
debt_by Cmd i j = missing_if (has_aborted i && may_end j) Commit
debt_by Ed i j = missing_if (has_committed i && is_in_progress j) Abort
debt_by _ i j = None

-- the debt of j by this edge
abbrev pub debt_of : (ℕ → Status) → Edge → Option Missing
debt_of status e = debt_by e.kind (status e.i.0) (status e.j.0)

-- whether t owes a commit, or an abort, because of this edge
abbrev pub owes_commit : (ℕ → Status) → ℕ → Edge → Bool
owes_commit status t e = (e.j.0 == t) && is_commit (debt_of status e)

abbrev pub owes_abort : (ℕ → Status) → ℕ → Edge → Bool
owes_abort status t e = (e.j.0 == t) && is_abort (debt_of status e)

-- the debt by the edge with number n, if there is one
abbrev pub owed_at : ℕ → Edge → Option Missing → Option Owed
owed_at n e None = None
owed_at n e (Some missing) = Some (record { edge = record { 0 = n }; txn = e.j; missing = missing })

-- the debts, by edge number, if the first edge has the number n
abbrev pub owed_from : (ℕ → Status) → ℕ → List Edge → List Owed
owed_from status n [] = []
owed_from status n (e ∷ edges) =
    cons_option (owed_at n e (debt_of status e)) (owed_from status (n + 1) edges)

-- the debts, by edge number
abbrev pub owed_in : (ℕ → Status) → List Edge → List Owed
owed_in status edges = owed_from status 1 edges

-- whether a transaction owes a commit by this edge, and an abort by some edge
abbrev pub clashes_by : (ℕ → Status) → List Edge → Edge → Bool
clashes_by status edges e =
    is_commit (debt_of status e) && list_any (owes_abort status e.j.0) edges

-- the transactions that owe both a commit and an abort, one for each edge by which they owe the commit
abbrev pub owing_both : (ℕ → Status) → List Edge → List ℕ
owing_both status edges = map (λ e. e.j.0) (filter (clashes_by status edges) edges)

-- the smallest transaction that owes both
abbrev pub clashing : (ℕ → Status) → List Edge → Option ℕ
clashing status edges = smallest (owing_both status edges)

-- whether t owes both a commit and an abort
abbrev pub owes_both : (ℕ → Status) → List Edge → ℕ → Bool
owes_both status edges t = list_any (owes_commit status t) edges && list_any (owes_abort status t) edges
