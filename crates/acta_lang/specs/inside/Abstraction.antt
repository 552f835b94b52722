-- The draft that the code's state stands for.
use Rattle.std.specs.Option.{option_map_or}
use Rattle.std.specs.Prelude.{ℕ, Bool, false, List, map, option_map}
use Rattle.acta_table.specs.declared.model.Class.{Class}
use Rattle.acta_table.specs.declared.model.Object.{Object}
use Rattle.acta_words.specs.Text.{is_word_among}
use Rattle.acta_lang.specs.declared.draft.ClassDraft.{ClassDraft}
use Rattle.acta_lang.specs.declared.draft.ClosedDraft.{ClosedDraft}
use Rattle.acta_lang.specs.declared.draft.ObjectDraft.{ObjectDraft}
use Rattle.acta_lang.specs.declared.draft.Draft as held
use Rattle.acta_lang.specs.declared.parsed.Parsed.{Parsed}
use Rattle.acta_lang.specs.Drafts.{Draft, OpenClass, closed}
use denote.Ref.{Bor}

-- the parts given so far, under this name
abbrev pub class_shown : {A : Type 0} → List ℕ → Parsed A → OpenClass
class_shown name s = record {
  name = name;
  starts = s.starts;
  may = s.may;
  scope = s.scope;
  policy = s.policy;
  at_commit = s.at_commit;
  extent = s.extent;
  spawn_edges = s.spawn_edges.items;
  split_edges = s.split_edges.items;
}

-- an object and a closed class under their names
abbrev pub object_shown : {A : Type 0} → (Bor (List ℕ) × ObjectDraft) → Object A
object_shown e = record { name = e.0.now; kind = e.1.kind }

abbrev pub closed_shown : {A : Type 0} → (Bor (List ℕ) × ClosedDraft A) → Class A
closed_shown e = closed (class_shown e.0.now e.1.parsed)

-- the open class
abbrev pub current_shown : {A : Type 0} → ClassDraft A → OpenClass
current_shown c = class_shown c.name.now c.parsed

-- the whole draft
abbrev pub abstraction : {A : Type 0} → held.Draft A → Draft A
abstraction d = record {
  objects = map object_shown d.objects.entries;
  classes = map closed_shown d.classes.entries;
  current = option_map current_shown d.current;
}

-- whether the open class has the name of a closed one
abbrev pub is_current_taken : {A : Type 0} → Draft A → Bool
is_current_taken d = option_map_or (λ class. is_word_among (map (λ c. c.name) d.classes) class.name) d.current false
