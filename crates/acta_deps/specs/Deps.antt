-- The abstract state of a table of dependencies: the statuses of the transactions, and the edges in force.
use Rattle.std.specs.Prelude.{ℕ, List, slice_get, unwrap_or}
use Rattle.acta_table.specs.declared.dep.Edge.{Edge}
use Rattle.acta_table.specs.declared.answer.Status.{Status}
use Rattle.acta_table.specs.declared.answer.Status.TheVariants.{NotBegun}

-- the statuses by number from 0, and the edges in order of forming
pub record DepState : Type 0 where
  pub statuses : List Status
  pub edges : List Edge

-- the status of a transaction in a list; a transaction past its end has not begun
abbrev pub status_listed : List Status → ℕ → Status
status_listed statuses t = unwrap_or (slice_get statuses t) NotBegun

-- the status of a transaction
abbrev pub status_of : DepState → ℕ → Status
status_of d t = status_listed d.statuses t
