-- The debts of a history's edges, and when the history is legal.
use Rattle.std.specs.Prelude.{ℕ, Bool, ◌&&◌, not, ◌==◌, List, filter_map, Option, option_map}
use Rattle.std.specs.List.{list_any, enumerate_from}
use Rattle.acta_table.specs.declared.dep.Edge.{Edge}
use Rattle.acta_table.specs.declared.dep.Missing.{Missing}
use Rattle.acta_table.specs.declared.dep.Owed.{Owed}
use Rattle.acta_table.specs.declared.event.Kept.{Kept}
use Rattle.acta_table.specs.declared.model.Parts.{Parts}
use Rattle.acta_table.specs.Dependencies.{is_commit, is_abort}
use Rattle.acta_axioms.specs.History.{course}
use Rattle.acta_axioms.specs.Edges.{edges}
use Rattle.acta_axioms.specs.Formulas.{debt, is_broken}

-- the debt of the edge in this history
abbrev pub debt_in : {A : Type 0} → List (Kept A) → Edge → Option Missing
debt_in h e = debt e.kind (course h e.j.0) (course h e.i.0)

-- whether the formula of the edge is false in this history and j owes nothing for it
abbrev pub is_broken_in : {A : Type 0} → List (Kept A) → Edge → Bool
is_broken_in h e = is_broken e.kind (course h e.j.0) (course h e.i.0)

-- the debt by the edge with this number
abbrev pub owed_on : ℕ × Edge → Missing → Owed
owed_on e missing = record { edge = record { 0 = e.0 }; txn = e.1.j; missing = missing }

-- all debts, by edge number
unfoldable pub owed : {A : Type 0} → Parts A → List (Kept A) → List Owed
owed m h = filter_map (λ e. option_map (owed_on e) (debt_in h e.1)) (enumerate_from 1 (edges m h))

-- whether t owes an abort because of the edge
abbrev pub owes_abort_in : {A : Type 0} → List (Kept A) → ℕ → Edge → Bool
owes_abort_in h t e = (e.j.0 == t) && is_abort (debt_in h e)

-- whether j of this edge owes a commit by it, and an abort by one of the edges
abbrev pub clashes_in : {A : Type 0} → List (Kept A) → List Edge → Edge → Bool
clashes_in h es e = is_commit (debt_in h e) && list_any (owes_abort_in h e.j.0) es

-- whether some transaction owes both a commit and an abort
abbrev pub has_clash : {A : Type 0} → Parts A → List (Kept A) → Bool
has_clash m h = list_any (clashes_in h (edges m h)) (edges m h)

-- legal: each formula is true or there is a debt for it, and no transaction owes both a commit and an abort
unfoldable pub is_legal : {A : Type 0} → Parts A → List (Kept A) → Bool
is_legal m h = not (list_any (is_broken_in h) (edges m h)) && not (has_clash m h)
