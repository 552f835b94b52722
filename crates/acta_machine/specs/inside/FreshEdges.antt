-- A property of the edges that an event forms.
use Rattle.std.specs.Prelude.{ℕ, Bool, not, ◌&&◌, is_none}
use Rattle.acta_table.specs.declared.answer.Status.{Status}
use Rattle.acta_table.specs.declared.dep.Edge.{Edge}
use Rattle.acta_table.specs.WellFormed.{is_bad_number}
use Rattle.acta_deps.specs.Debts.{debt_of}

-- whether the edge is between valid transaction numbers and has no debt
abbrev pub is_fresh_edge : (ℕ → Status) → Edge → Bool
is_fresh_edge status e =
    not (is_bad_number e.j.0) && not (is_bad_number e.i.0) && is_none (debt_of status e)
