-- The faults and debts of edges by the courses of their transactions, and the debts of transactions that owe both.
use Rattle.std.specs.Prelude.{ℕ, Bool, ◌&&◌, ◌==◌, List, map, filter, filter_map, flat_map, option_map, if◌then◌else◌, Option, Some, None}
use Rattle.std.specs.List.{list_any}
use Rattle.acta_table.specs.declared.dep.Dep.{Dep}
use Rattle.acta_table.specs.declared.dep.Edge.{Edge}
use Rattle.acta_table.specs.declared.dep.Owed.{Owed}
use Rattle.acta_table.specs.declared.event.Kept.{Kept}
use Rattle.acta_table.specs.Dependencies.{is_commit, is_abort}
use Rattle.acta_table.specs.Numbered.{ascending}
use Rattle.acta_axioms.specs.declared.course.Course.{Course}
use Rattle.acta_axioms.specs.Formulas.{is_broken}
use Rattle.acta_axioms.specs.Legal.{debt_in, owed_on}
use Rattle.acta_judge.specs.declared.edges.ByEdges.{ByEdges}
use Rattle.acta_judge.specs.Broken.{edge_faults, place_broken}

-- the place where a formula of this kind became false, if it is false with nothing owed, by the courses of j and i
abbrev pub place_by : Dep → Course → Course → Option ℕ
place_by kind j i = if is_broken kind j i then place_broken kind j i else None

-- the faults and the debts of these numbered edges, in the whole history
abbrev pub by_edges : {A : Type 0} → List (Kept A) → List (ℕ × Edge) → ByEdges A
by_edges h es = record {
  faults = flat_map (edge_faults h) es;
  owed = filter_map (λ e. option_map (owed_on e) (debt_in h e.1)) es;
}

-- the transactions that owe an abort by some of these debts, ascending, each once
abbrev pub aborting : List Owed → List ℕ
aborting debts = ascending (map (λ o. o.txn.0) (filter (λ o. is_abort (Some o.missing)) debts))

-- whether t owes an abort by this debt
abbrev pub owes_abort : ℕ → Owed → Bool
owes_abort t o = (o.txn.0 == t) && is_abort (Some o.missing)

-- whether the debt is a commit, owed by a transaction that also owes an abort
abbrev pub clashes_among : List Owed → Owed → Bool
clashes_among debts o = is_commit (Some o.missing) && list_any (owes_abort o.txn.0) debts

-- the transactions that owe both by these debts, some more than once
abbrev pub clashing_among : List Owed → List ℕ
clashing_among debts = map (λ o. o.txn.0) (filter (clashes_among debts) debts)
