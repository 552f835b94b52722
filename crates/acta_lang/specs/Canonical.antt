-- The canonical text of a model.
use Rattle.std.specs.Prelude.{ℕ, Bool, List, [], ◌∷◌, ◌++◌, map, filter, flat_map, codes, if◌then◌else◌}
use Rattle.std.specs.Fmt.{signed_decimal}
use Rattle.acta_table.specs.declared.model.Class.{Class}
use Rattle.acta_table.specs.declared.model.Kind.{Kind}
use Rattle.acta_table.specs.declared.model.Kind.TheVariants.{Register, Counter, Elements}
use Rattle.acta_table.specs.declared.model.Object.{Object}
use Rattle.acta_table.specs.declared.model.Parts.{Parts}
use Rattle.acta_table.specs.declared.model.Starts.{Starts}
use Rattle.acta_table.specs.declared.policy.Policy.{Policy}
use Rattle.acta_table.specs.declared.policy.Policy.TheVariants.{Refuse, Depend}
use Rattle.acta_table.specs.declared.start_edges.Dependent.{Dependent}
use Rattle.acta_table.specs.declared.start_edges.Dependent.TheVariants.{Starter, Started}
use Rattle.acta_table.specs.declared.start_edges.StartEdge.{StartEdge}
use Rattle.acta_table.specs.Dependencies.{all_kinds, word_of, has_dep}
use Rattle.acta_table.specs.Kinds.{has_kind}
use Rattle.acta_words.specs.Text.{line_of, text_of}
use Rattle.acta_lang.specs.Words.{may_kinds, may_word, scope_word, commit_word, extent_word}

-- the words after `object NAME`
abbrev pub kind_words : Kind → List (List ℕ)
kind_words (Register first) = codes "register" ∷ signed_decimal first ∷ []
kind_words (Counter first) = codes "counter" ∷ signed_decimal first ∷ []
kind_words Elements = codes "set" ∷ []

-- the words of the line of an object
abbrev pub object_words : {A : Type 0} → Object A → List (List ℕ)
object_words o = codes "object" ∷ o.name ∷ kind_words o.kind

-- the word, if the test is true
abbrev pub word_if : Bool → List ℕ → List (List ℕ)
word_if test word = if test then word ∷ [] else []

-- how transactions of the class may start
abbrev pub starts_words : Starts → List (List ℕ)
starts_words s = word_if s.begin (codes "begin") ++ word_if s.spawned (codes "spawned") ++ word_if s.split (codes "split")

-- the kinds of event of the set, by code
abbrev pub may_words : ℕ → List (List ℕ)
may_words kinds = map may_word (filter (has_kind kinds) may_kinds)

-- the kinds of dependency of the set, by code
abbrev pub dep_words : ℕ → List (List ℕ)
dep_words kinds = map word_of (filter (has_dep kinds) all_kinds)

abbrev pub policy_words : Policy → List (List ℕ)
policy_words Refuse = codes "refuse" ∷ []
policy_words (Depend kinds) = codes "depend" ∷ dep_words kinds

-- the words of the line of an edge at a start: the dependent end comes first
abbrev pub edge_words : List ℕ → StartEdge → List (List ℕ)
edge_words at e = directed_words at (word_of e.kind) e.dependent
  where
    directed_words : List ℕ → List ℕ → Dependent → List (List ℕ)
    directed_words at kind Starter = at ∷ codes "starter" ∷ kind ∷ codes "started" ∷ []
    directed_words at kind Started = at ∷ codes "started" ∷ kind ∷ codes "starter" ∷ []

-- the words of the lines of a class
abbrev pub class_words : {A : Type 0} → Class A → List (List (List ℕ))
class_words c =
    (codes "class" ∷ c.name ∷ [])
    ∷ (codes "starts" ∷ starts_words c.starts)
    ∷ (codes "may" ∷ may_words c.may)
    ∷ (codes "scope" ∷ scope_word c.scope ∷ [])
    ∷ (codes "policy" ∷ policy_words c.policy)
    ∷ (codes "commit" ∷ commit_word c.at_commit ∷ [])
    ∷ (codes "delegation" ∷ extent_word c.extent ∷ [])
    ∷ map (edge_words (codes "spawn")) c.spawn_edges
    ++ map (edge_words (codes "split")) c.split_edges
    ++ (codes "end" ∷ []) ∷ []

-- the words of the lines of a model: its objects, then its classes, in order
abbrev pub model_words : {A : Type 0} → Parts A → List (List (List ℕ))
model_words m = map object_words m.objects ++ flat_map class_words m.classes

-- the canonical text of a model
unfoldable pub canonical : {A : Type 0} → Parts A → List ℕ
canonical m = text_of (map line_of (model_words m))
