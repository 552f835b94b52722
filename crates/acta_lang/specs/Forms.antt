-- The form of a line, by its words.
use Rattle.std.specs.Prelude.{ℕ, List, [], ◌∷◌, length, ◌&&◌, ◌==◌, if◌then◌else◌, codes, slice_get, Option, Some, None, option_map, option_and_then, unwrap_or}
use Rattle.std.specs.List.{list_all}
use Rattle.std.specs.Str.{bytes_eq}
use Rattle.acta_table.specs.declared.policy.Policy.TheVariants.{Refuse, Depend}
use Rattle.acta_table.specs.declared.start_edges.Dependent.{Dependent}
use Rattle.acta_table.specs.declared.start_edges.Dependent.TheVariants.{Starter, Started}
use Rattle.acta_table.specs.declared.start_edges.StartEdge.{StartEdge}
use Rattle.acta_words.specs.Text.{each_read, is_word_among}
use Rattle.acta_lang.specs.declared.form.Form.{Form}
use Rattle.acta_lang.specs.declared.form.Form.TheVariants as form
use Rattle.acta_lang.specs.Words.{start_words, starts_of, may_named, dep_named, kinds_of, deps_of, scope_named, commit_named, extent_named}

-- the word in the place of a name
abbrev pub name_in : List (List ℕ) → List ℕ
name_in words = unwrap_or (slice_get words 1) []

-- the word in the place of a first value
abbrev pub value_in : List (List ℕ) → List ℕ
value_in words = unwrap_or (slice_get words 3) []

-- the form if there is one, otherwise `Unknown`
abbrev pub known : Option Form → Form
known o = unwrap_or o form.Unknown

-- NAME register INT, NAME counter INT, NAME set
abbrev pub object_form : List (List ℕ) → Form
object_form (name ∷ kind ∷ []) = if bytes_eq kind (codes "set") then form.Elements else form.Unknown
object_form (name ∷ kind ∷ value ∷ []) =
    if bytes_eq kind (codes "register") then form.Register
    else if bytes_eq kind (codes "counter") then form.Counter
    else form.Unknown
object_form _ = form.Unknown

-- NAME
abbrev pub class_form : List (List ℕ) → Form
class_form (name ∷ []) = form.Class
class_form _ = form.Unknown

-- [begin|spawned|split]...
abbrev pub starts_form : List (List ℕ) → Form
starts_form words = if list_all (is_word_among start_words) words then form.Starts (starts_of words) else form.Unknown

-- [spawn|split|join|delegate|form|operate|commit|abort|permit]...
abbrev pub may_form : List (List ℕ) → Form
may_form words = known (option_map (λ kinds. form.May (kinds_of kinds)) (each_read may_named words))

-- others|nonancestors
abbrev pub scope_form : List (List ℕ) → Form
scope_form (word ∷ []) =
    known (option_map (λ s. form.Scope s) (scope_named word))
scope_form _ = form.Unknown

-- [KIND]...
abbrev pub depend_form : List (List ℕ) → Form
depend_form words = known (option_map (λ kinds. form.Policy (Depend (deps_of kinds))) (each_read dep_named words))

-- refuse, depend [KIND]...
abbrev pub policy_form : List (List ℕ) → Form
policy_form [] = form.Unknown
policy_form (word ∷ words) =
    if bytes_eq word (codes "refuse") && (length words == 0) then form.Policy Refuse
    else if bytes_eq word (codes "depend") then depend_form words
    else form.Unknown

-- keeps|toparent
abbrev pub commit_form : List (List ℕ) → Form
commit_form (word ∷ []) =
    known (option_map (λ c. form.Commit c) (commit_named word))
commit_form _ = form.Unknown

-- whole|any
abbrev pub delegation_form : List (List ℕ) → Form
delegation_form (word ∷ []) =
    known (option_map (λ e. form.Delegation e) (extent_named word))
delegation_form _ = form.Unknown

-- the end that depends, named by the first of the words `starter` and `started`
abbrev pub dependent_named : List ℕ → List ℕ → Option Dependent
dependent_named j i =
    if bytes_eq j (codes "starter") && bytes_eq i (codes "started") then Some Starter
    else if bytes_eq j (codes "started") && bytes_eq i (codes "starter") then Some Started
    else None

-- starter KIND started, started KIND starter
abbrev pub parse_edge : List (List ℕ) → Option StartEdge
parse_edge (j ∷ word ∷ i ∷ []) =
    option_and_then (λ kind. option_map (λ d. record { kind = kind; dependent = d }) (dependent_named j i)) (dep_named word)
parse_edge _ = None

abbrev pub spawn_form : List (List ℕ) → Form
spawn_form words = known (option_map (λ e. form.Spawn e) (parse_edge words))

abbrev pub split_form : List (List ℕ) → Form
split_form words = known (option_map (λ e. form.Split e) (parse_edge words))

-- nothing
abbrev pub end_form : List (List ℕ) → Form
end_form [] = form.End
end_form _ = form.Unknown

-- the form of a line of a class, by its first word and those after it
abbrev pub form_in_class : List ℕ → List (List ℕ) → Form
form_in_class word words =
    if bytes_eq word (codes "starts") then starts_form words
    else if bytes_eq word (codes "may") then may_form words
    else if bytes_eq word (codes "scope") then scope_form words
    else if bytes_eq word (codes "policy") then policy_form words
    else if bytes_eq word (codes "commit") then commit_form words
    else if bytes_eq word (codes "delegation") then delegation_form words
    else if bytes_eq word (codes "spawn") then spawn_form words
    else if bytes_eq word (codes "split") then split_form words
    else form.Unknown

-- the form of a line of these words
abbrev pub form_of : List (List ℕ) → Form
form_of [] = form.Blank
form_of (word ∷ words) =
    if bytes_eq word (codes "object") then object_form words
    else if bytes_eq word (codes "class") then class_form words
    else if bytes_eq word (codes "end") then end_form words
    else form_in_class word words
