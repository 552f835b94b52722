-- The edges that a history forms, in order of forming, each once.
use Rattle.std.specs.Prelude.{ℕ, List, [], ◌∷◌, map, flat_map}
use Rattle.std.specs.Option.{option_map_or}
use Rattle.acta_table.specs.declared.dep.Edge.{Edge}
use Rattle.acta_table.specs.declared.event.Event.{Event}
use Rattle.acta_table.specs.declared.event.Event.TheVariants.{Spawn, Split, Form, Operate}
use Rattle.acta_table.specs.declared.event.Kept.{Kept}
use Rattle.acta_table.specs.declared.event.Op.{Op}
use Rattle.acta_table.specs.declared.model.Parts.{Parts}
use Rattle.acta_table.specs.Classes.{class_at}
use Rattle.acta_table.specs.Edges.{formed}
use Rattle.acta_table.specs.Numbered.{ascending}
use Rattle.acta_table.specs.Policies.{edges_upon}
use Rattle.acta_table.specs.Starts.{edges_between}
use Rattle.acta_axioms.specs.History.{Place, places, class_of}
use Rattle.acta_axioms.specs.Operations.{standing}
use Rattle.acta_axioms.specs.Values.{conflicting}

-- the holders of the operations that an operation of t conflicts with, ascending, each once
abbrev pub holders_against : {A : Type 0} → Parts A → List (Kept A) → ℕ → ℕ → Op → List ℕ
holders_against m h t object op =
    ascending (map (λ o. (standing m h o).holder) (conflicting m h t object op))

-- the edges that an event after these items forms: a spawn or a split forms the start edges of the class named, if the
-- model has it; a form event its edge; an operation those to every conflicting holder, by the policy of its
-- transaction's class
abbrev pub formed_by : {A : Type 0} → Parts A → List (Kept A) → Event A → List Edge
formed_by m before (Spawn t c class) =
    option_map_or (λ k. edges_between t c k.spawn_edges) (class_at m class.0) []
formed_by m before (Split t u class ops) =
    option_map_or (λ k. edges_between t u k.split_edges) (class_at m class.0) []
formed_by m before (Form kind j i) = (record { kind = kind; j = j; i = i }) ∷ []
formed_by m before (Operate t object op) =
    option_map_or (λ k. edges_upon k.policy t (holders_against m before t.0 object.0 op)) (class_of m before t.0) []
formed_by m before _ = []

-- the edges that the event at a place forms
abbrev pub formed_at : {A : Type 0} → Parts A → Place A → List Edge
formed_at m p = formed_by m p.before p.kept.event

-- the edges in force: all that the events form, legal or not, each once, numbered from 1
abbrev pub edges : {A : Type 0} → Parts A → List (Kept A) → List Edge
edges m h = formed [] (flat_map (formed_at m) (places h))
