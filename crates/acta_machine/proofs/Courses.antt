-- Debts, broken edges and legality in terms of the transactions' courses.
use Rattle.std.specs.Prelude.{ℕ, Bool, ◌&&◌, not, ◌==◌, List, Option}
use Rattle.std.specs.List.{list_any}
use Rattle.acta_table.specs.declared.dep.Edge.{Edge}
use Rattle.acta_table.specs.declared.dep.Missing.{Missing}
use Rattle.acta_table.specs.Dependencies.{is_commit, is_abort}
use Rattle.acta_axioms.specs.declared.course.Course.{Course}
use Rattle.acta_axioms.specs.Formulas.{debt, is_broken}

-- the debt of an edge, and whether its formula is false and not owed, given the courses
abbrev pub debt_by : (ℕ → Course) → Edge → Option Missing
debt_by courses e = debt e.kind (courses e.j.0) (courses e.i.0)

abbrev pub is_broken_by : (ℕ → Course) → Edge → Bool
is_broken_by courses e = is_broken e.kind (courses e.j.0) (courses e.i.0)

-- whether t owes an abort because of the edge
abbrev pub owes_abort_by : (ℕ → Course) → ℕ → Edge → Bool
owes_abort_by courses t e = (e.j.0 == t) && is_abort (debt_by courses e)

-- whether j of this edge owes a commit by it, and an abort by one of the edges
abbrev pub clashes_by : (ℕ → Course) → List Edge → Edge → Bool
clashes_by courses es e = is_commit (debt_by courses e) && list_any (owes_abort_by courses e.j.0) es

-- legal: each formula is true or owed, and no transaction owes both a commit and an abort
abbrev pub is_legal_by : (ℕ → Course) → List Edge → Bool
is_legal_by courses es = not (list_any (is_broken_by courses) es) && not (list_any (clashes_by courses es) es)
