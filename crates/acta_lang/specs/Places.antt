-- The place of the word at fault in a faulty line, from 0, and what is expected there.
use Rattle.std.specs.Prelude.{ℕ, ◌+◌, Bool, false, not, ◌||◌, List, [], ◌∷◌, length, map, nat_lt, if◌then◌else◌, codes, slice_get, Option, Some, None, is_some, is_none, unwrap_or}
use Rattle.std.specs.List.{position_from}
use Rattle.std.specs.Option.{option_map_or}
use Rattle.std.specs.Str.{bytes_eq}
use Rattle.acta_table.specs.declared.model.AtCommit.TheVariants.{Keeps, ToParent}
use Rattle.acta_table.specs.declared.model.Extent.TheVariants.{Whole, Any}
use Rattle.acta_table.specs.declared.model.Scope.TheVariants.{Others, NonAncestors}
use Rattle.acta_table.specs.Dependencies.{all_kinds, word_of}
use Rattle.acta_table.specs.Policies.{is_policy_kind}
use Rattle.acta_words.specs.Text.{is_word_among}
use Rattle.acta_lang.specs.declared.diagnostic.Expected.{Expected}
use Rattle.acta_lang.specs.declared.diagnostic.Expected.TheVariants as want
use Rattle.acta_lang.specs.declared.fault.Code.{Code}
use Rattle.acta_lang.specs.declared.fault.Code.TheVariants.{NotAscii, BadWord, BadName, DuplicateName, WrongPlace, BadNumber, TooMany, MissingEnd, MissingPart, BeginKindAtStart, HeirWithoutSpawn, BadPolicyKind}
use Rattle.acta_lang.specs.declared.form.Form.{Form}
use Rattle.acta_lang.specs.Drafts.{Draft, OpenClass, has_part}
use Rattle.acta_lang.specs.Faults.{is_class, is_printable}
use Rattle.acta_lang.specs.Words.{start_words, may_kinds, may_word, may_named, dep_named, scope_word, scope_named, commit_word, commit_named, extent_word, extent_named}

-- the word at a place, or the empty word
abbrev pub word_at : List (List ℕ) → ℕ → List ℕ
word_at words place = unwrap_or (slice_get words place) []

-- the place, if the line has a word there
abbrev pub place_if : List (List ℕ) → ℕ → Option ℕ
place_if words place = if nat_lt place (length words) then Some place else None

-- whether the word is allowed where this is expected, in lines that take any number of words
abbrev pub may_stand : Expected → List ℕ → Bool
may_stand want.Starts word = is_word_among start_words word
may_stand want.May word = is_some (may_named word)
may_stand want.Scope word = is_some (scope_named word)
may_stand want.Commit word = is_some (commit_named word)
may_stand want.Delegation word = is_some (extent_named word)
may_stand want.Kinds word = is_some (dep_named word)
may_stand want.PolicyKinds word = option_map_or is_policy_kind (dep_named word) false
may_stand _ word = false

-- the place of the first word, from a place on, that is not allowed there; if there is none, place 2, where a word is
-- missing or surplus
abbrev pub stray : Expected → ℕ → List (List ℕ) → ℕ
stray expected from words =
    option_map_or (λ place. from + place) (position_from (λ word. not (may_stand expected word)) 0 words) 2

-- whether the word is a kind of object, and whether it is an end of an edge
abbrev pub is_object_kind : List ℕ → Bool
is_object_kind word = bytes_eq word (codes "register") || bytes_eq word (codes "counter") || bytes_eq word (codes "set")

abbrev pub is_edge_end : List ℕ → Bool
is_edge_end word = bytes_eq word (codes "starter") || bytes_eq word (codes "started")

-- after `object`: the kind, if it is not a kind, otherwise the word after the last that the kind takes
abbrev pub bad_object : List (List ℕ) → ℕ × Expected
bad_object (name ∷ kind ∷ more) =
    if not (is_object_kind kind) then (2, want.ObjectKind)
    else if bytes_eq kind (codes "set") then (3, want.Object)
    else (4, want.Object)
bad_object _ = (4, want.Object)

-- after `policy`
abbrev pub bad_policy : List (List ℕ) → ℕ × Expected
bad_policy [] = (1, want.Policy)
bad_policy (word ∷ kinds) =
    if bytes_eq word (codes "depend") then (stray want.Kinds 2 kinds, want.Kinds)
    else if bytes_eq word (codes "refuse") then (2, want.Policy)
    else (1, want.Policy)

-- an edge's line: its first end, its kind, its other end, or the word after that
abbrev pub bad_edge : Expected → Expected → Expected → List (List ℕ) → ℕ × Expected
bad_edge end kind other words =
    if not (is_edge_end (word_at words 1)) then (1, end)
    else if is_none (dep_named (word_at words 2)) then (2, kind)
    else if not (is_edge_end (word_at words 3)) || bytes_eq (word_at words 1) (word_at words 3) then (3, other)
    else (4, other)

-- a line with this first word and these words after it
abbrev pub bad_class_line : List ℕ → List (List ℕ) → ℕ × Expected
bad_class_line word words =
    if bytes_eq word (codes "starts") then (stray want.Starts 1 words, want.Starts)
    else if bytes_eq word (codes "may") then (stray want.May 1 words, want.May)
    else if bytes_eq word (codes "scope") then (stray want.Scope 1 words, want.Scope)
    else if bytes_eq word (codes "commit") then (stray want.Commit 1 words, want.Commit)
    else if bytes_eq word (codes "delegation") then (stray want.Delegation 1 words, want.Delegation)
    else if bytes_eq word (codes "end") then (1, want.End)
    else (0, want.FirstWord)

-- a line whose words fit no form
abbrev pub bad_word_place : List (List ℕ) → ℕ × Expected
bad_word_place [] = (0, want.FirstWord)
bad_word_place (word ∷ words) =
    if bytes_eq word (codes "object") then bad_object words
    else if bytes_eq word (codes "class") then (2, want.Class)
    else if bytes_eq word (codes "policy") then bad_policy words
    else if bytes_eq word (codes "spawn") then bad_edge want.SpawnEnd want.SpawnKind want.SpawnOther (word ∷ words)
    else if bytes_eq word (codes "split") then bad_edge want.SplitEnd want.SplitKind want.SplitOther (word ∷ words)
    else bad_class_line word words

-- a policy's line: the first kind that a policy may not form, otherwise the missing kind
abbrev pub policy_place : List (List ℕ) → ℕ
policy_place (first ∷ word ∷ kinds) = stray want.PolicyKinds 2 kinds
policy_place _ = 2

-- the offset of the first byte that no line may have
abbrev pub stray_byte : List ℕ → ℕ
stray_byte line = unwrap_or (position_from (λ b. not (is_printable b)) 0 line) 0

-- what is expected instead of a line in the wrong place: without an open class a line allowed there, otherwise a new part or
-- the end of the class
abbrev pub wrongly_placed : Option OpenClass → Form → Expected
wrongly_placed None parsed = want.Outside
wrongly_placed (Some c) parsed = if has_part parsed c then want.Once else want.Ended

-- what a text lacks: parts of the open class, or a class
abbrev pub lacking : Option OpenClass → Expected
lacking None = want.SomeClass
lacking (Some c) = want.AllParts

-- the words with which lines begin
abbrev pub first_words : List (List ℕ)
first_words =
    codes "object" ∷ codes "class" ∷ codes "starts" ∷ codes "may" ∷ codes "scope" ∷ codes "policy" ∷ codes "commit"
    ∷ codes "delegation" ∷ codes "spawn" ∷ codes "split" ∷ codes "end" ∷ []

-- the words that are allowed where this is expected
abbrev pub meant_words : Expected → List (List ℕ)
meant_words want.FirstWord = first_words
meant_words want.ObjectKind = codes "register" ∷ codes "counter" ∷ codes "set" ∷ []
meant_words want.Starts = start_words
meant_words want.May = map may_word may_kinds
meant_words want.Scope = scope_word Others ∷ scope_word NonAncestors ∷ []
meant_words want.Policy = codes "refuse" ∷ codes "depend" ∷ []
meant_words want.Commit = commit_word Keeps ∷ commit_word ToParent ∷ []
meant_words want.Delegation = extent_word Whole ∷ extent_word Any ∷ []
meant_words want.SpawnEnd = codes "starter" ∷ codes "started" ∷ []
meant_words want.SplitEnd = codes "starter" ∷ codes "started" ∷ []
meant_words want.Kinds = map word_of all_kinds
meant_words want.SpawnKind = map word_of all_kinds
meant_words want.SplitKind = map word_of all_kinds
meant_words _ = []

-- the place for the code, before checking that the line has a word there
abbrev pub wanted : {A : Type 0} → Draft A → List (List ℕ) → Form → Code → ℕ × Expected
wanted d words parsed NotAscii = (0, want.FirstWord)
wanted d words parsed BadWord = bad_word_place words
wanted d words parsed BadName = (1, want.Name)
wanted d words parsed DuplicateName = (1, if is_class parsed then want.NewClass else want.NewObject)
wanted d words parsed WrongPlace = (0, wrongly_placed d.current parsed)
wanted d words parsed BadNumber = (3, want.Number)
wanted d words parsed TooMany = (0, want.Fewer)
wanted d words parsed MissingEnd = (0, want.ClassEnd)
wanted d words parsed MissingPart = (0, lacking d.current)
wanted d words parsed BeginKindAtStart = (2, want.StartKind)
wanted d words parsed HeirWithoutSpawn = (0, want.Parents)
wanted d words parsed BadPolicyKind = (policy_place words, want.PolicyKinds)

-- the place of the word at fault and what is expected there, for a line with this code after lines that declare this
abbrev pub place_of : {A : Type 0} → Draft A → List ℕ → List (List ℕ) → Form → Code → Option ℕ × Expected
place_of d line words parsed NotAscii = (None, want.Printable (stray_byte line))
place_of d line words parsed code =
    let at = wanted d words parsed code in
    (place_if words at.0, at.1)
