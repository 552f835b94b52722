-- The edges that an event other than an operation forms.
use Rattle.std.specs.Prelude.{List, [], ◌∷◌, slice_get}
use Rattle.std.specs.Option.{option_map_or}
use Rattle.acta_table.specs.declared.dep.Edge.{Edge}
use Rattle.acta_table.specs.declared.event.Event.{Event}
use Rattle.acta_table.specs.declared.event.Event.TheVariants.{Spawn, Split, Form}
use Rattle.acta_table.specs.declared.model.Class.{Class}
use Rattle.acta_table.specs.Starts.{edges_between}

-- the edges that the event forms if it is no operation, given the classes of the model
abbrev pub edges_wanted : {A : Type 0} → List (Class A) → Event A → List Edge
edges_wanted classes (Spawn t c class) =
    option_map_or (λ k. edges_between t c k.spawn_edges) (slice_get classes class.0) []
edges_wanted classes (Split t u class ops) =
    option_map_or (λ k. edges_between t u k.split_edges) (slice_get classes class.0) []
edges_wanted classes (Form kind j i) = (record { kind = kind; j = j; i = i }) ∷ []
edges_wanted classes _ = []
