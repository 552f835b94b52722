-- Round trips: reading a written line.
use Rattle.std.specs.Prelude.{◌≡◌, None, Ok}
use Rattle.acta_table.specs.declared.event.Event.{Event}
use Rattle.acta_table.specs.declared.event.Kept.{Kept}
use Rattle.acta_table.specs.declared.model.Parts.{Parts}
use Rattle.acta_table.specs.Events.{class_named, object_named}
use Rattle.acta_script.specs.Reading.{event_of, kept_of}
use Rattle.acta_script.specs.Writing.{event_line, kept_line}

-- the event names no class and no object
abbrev pub NamesNothing : {A : Type 0} → Event A → Type 0
NamesNothing event = (class_named event ≡ None) × (object_named event ≡ None)

-- reading the event's line gives the event, and likewise for a kept item
abbrev pub IsReadAgain : {A : Type 0} → Parts A → Event A → Type 0
IsReadAgain m event = event_of m (event_line m event) ≡ Ok event

abbrev pub IsKeptAgain : {A : Type 0} → Parts A → Kept A → Type 0
IsKeptAgain m kept = kept_of m (kept_line m kept) ≡ Ok kept
