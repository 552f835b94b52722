-- The abstract state of a debugger.
use Rattle.std.specs.Prelude.{ℕ, List, []}
use Rattle.acta_table.specs.declared.event.Kept.{Kept}
use Rattle.acta_table.specs.declared.model.Parts.{Parts}
use Rattle.acta_debug.specs.declared.breaks.Break.{Break}

-- a model, a history, the number of events before the debugger's place, and the breaks, numbered from 1
pub record Session (A : Type 0) : Type 0 where
  pub model : Parts A
  pub history : List (Kept A)
  pub at : ℕ
  pub breaks : List Break

-- at the start of a history, with no breaks
abbrev pub opened : {A : Type 0} → Parts A → List (Kept A) → Session A
opened m h = record { model = m; history = h; at = 0; breaks = [] }

-- the same, after n events
abbrev pub moved_to : {A : Type 0} → Session A → ℕ → Session A
moved_to s n = record s { at = n }
