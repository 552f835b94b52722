-- The index that a list of steps keeps.
use Rattle.std.specs.Prelude.{◌≡◌, ◌<◌, ◌≤◌, ℕ, List, Option, None, IfSome, get_or, length, option_map}
use Rattle.acta_table.specs.declared.event.Event.{Event}
use Rattle.acta_table.specs.Events.{started}
use Rattle.acta_trace.specs.declared.index.Index.{Index}
use Rattle.acta_trace.specs.declared.step.Step.{Step}
use Rattle.acta_trace.specs.Steps.{Room, began, begins, does, ended, ended_by, ends, forms}
use Rattle.acta_trace.specs.inside.Firsts.{AreFirsts}

-- the places of the steps that began and ended each transaction, did each operation and formed each edge
pub record IsIndexed {A : Type 0} (steps : List (Step A)) (index : Index A) : Type 0 where
  pub begins : AreFirsts begins steps index.begun.places.items
  pub ends : AreFirsts ends steps index.ended.places.items
  pub does : AreFirsts does steps index.operations.places.items
  pub forms : AreFirsts forms steps index.edges.places.items

-- the numbers for which the tables have room, and for how many more steps there is
abbrev pub room_of : {A : Type 0} → Index A → ℕ → Room
room_of index more = record {
  begun = length index.begun.places.items;
  ended = length index.ended.places.items;
  operations = length index.operations.places.items;
  edges = length index.edges.places.items;
  more = more;
}
