-- Faults in the parts of a model, the lowest first.
use Rattle.std.specs.Prelude.{ℕ, Bool, false, not, ◌&&◌, ◌||◌, ◌==◌, nat_lt, nat_le, List, [], ◌∷◌, map, length, Option, Some, None, fold, if◌then◌else◌, slice_index}
use Rattle.std.specs.List.{list_any, list_all}
use Rattle.std.specs.Option.{option_or}
use Rattle.std.specs.Str.{bytes_eq}
use Rattle.std.specs.Char.{is_ascii_alphabetic, is_ascii_alphanumeric}
use Rattle.acta_table.specs.declared.model.Class.{Class}
use Rattle.acta_table.specs.declared.model.Parts.{Parts}
use Rattle.acta_table.specs.declared.model.ModelFault.{ModelFault}
use Rattle.acta_table.specs.declared.model.ModelFault.TheVariants.{NoClass, TooManyClasses, TooManyObjects, DuplicateName, BadName, BeginKindAtStart, HeirWithoutSpawn, BadPolicyKind}
use Rattle.acta_table.specs.declared.start_edges.StartEdge.{StartEdge}
use Rattle.acta_table.specs.declared.limits.TheConstants.{LONGEST_NAME, MOST_CLASSES, MOST_OBJECTS}
use Rattle.acta_table.specs.Classes.{has_heir}
use Rattle.acta_table.specs.Dependencies.{is_begin_kind}
use Rattle.acta_table.specs.Policies.{is_bad_policy}

-- a name is an ASCII letter followed by at most 31 letters, digits or underscores
abbrev pub is_name : List ℕ → Bool
is_name name =
    nat_lt 0 (length name) && nat_le (length name) LONGEST_NAME
    && is_ascii_alphabetic (slice_index name 0)
    && list_all (λ b. is_ascii_alphanumeric b || (b == 95)) name

-- whether some name occurs twice
abbrev pub has_twice : List (List ℕ) → Bool
has_twice [] = false
has_twice (name ∷ names) = list_any (bytes_eq name) names || has_twice names

-- the names of the objects, and of the classes
abbrev pub object_names : {A : Type 0} → Parts A → List (List ℕ)
object_names m = map (λ o. o.name) m.objects

abbrev pub class_names : {A : Type 0} → Parts A → List (List ℕ)
class_names m = map (λ c. c.name) m.classes

-- whether one of the start edges is of a begin kind, which would block the start that forms it
abbrev pub has_begin_edge : List StartEdge → Bool
has_begin_edge edges = list_any (λ e. is_begin_kind e.kind) edges

-- whether a start edge of the class is of a begin kind
abbrev pub has_begin_kind : {A : Type 0} → Class A → Bool
has_begin_kind class = has_begin_edge class.spawn_edges || has_begin_edge class.split_edges

-- whether the class commits to parents, but its transactions can start without one, by a begin or a split
abbrev pub lacks_parents : {A : Type 0} → Class A → Bool
lacks_parents class = has_heir class.at_commit && (class.starts.begin || class.starts.split)

-- the fault, if the test is true
abbrev pub fault_if : Bool → ModelFault → Option ModelFault
fault_if test fault = if test then Some fault else None

-- the lowest fault of the parts
abbrev pub lowest_fault : {A : Type 0} → Parts A → Option ModelFault
lowest_fault m = fold option_or None (
    fault_if (length m.classes == 0) NoClass
    ∷ fault_if (nat_lt MOST_CLASSES (length m.classes)) TooManyClasses
    ∷ fault_if (nat_lt MOST_OBJECTS (length m.objects)) TooManyObjects
    ∷ fault_if (has_twice (object_names m) || has_twice (class_names m)) DuplicateName
    ∷ fault_if (not (list_all is_name (object_names m) && list_all is_name (class_names m))) BadName
    ∷ fault_if (list_any has_begin_kind m.classes) BeginKindAtStart
    ∷ fault_if (list_any lacks_parents m.classes) HeirWithoutSpawn
    ∷ fault_if (list_any (λ class. is_bad_policy class.policy) m.classes) BadPolicyKind
    ∷ [])
