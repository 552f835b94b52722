-- The lines of a history.
use Rattle.std.specs.Prelude.{ℕ, List}
use Rattle.acta_table.specs.declared.event.Kept.{Kept}
use Rattle.acta_table.specs.declared.model.Parts.{Parts}
use Rattle.acta_script.specs.Writing.{event_line}

-- the event line of a kept item
abbrev pub event_line_in : {A : Type 0} → Parts A → Kept A → List ℕ
event_line_in m kept = event_line m kept.event
