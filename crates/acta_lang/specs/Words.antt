-- The words of the language and their values.
use Rattle.std.specs.Prelude.{ℕ, List, [], ◌∷◌, fold, find, bit_or, codes, Option}
use Rattle.std.specs.Str.{bytes_eq}
use Rattle.acta_table.specs.declared.dep.Dep.{Dep}
use Rattle.acta_table.specs.declared.event.EventKind.{EventKind}
use Rattle.acta_table.specs.declared.event.EventKind.TheVariants.{Begin, Spawn, Split, Join, Delegate, Form, Operate, Commit, Abort, Permit}
use Rattle.acta_table.specs.declared.model.AtCommit.{AtCommit}
use Rattle.acta_table.specs.declared.model.AtCommit.TheVariants.{Keeps, ToParent}
use Rattle.acta_table.specs.declared.model.Extent.{Extent}
use Rattle.acta_table.specs.declared.model.Extent.TheVariants.{Whole, Any}
use Rattle.acta_table.specs.declared.model.Scope.{Scope}
use Rattle.acta_table.specs.declared.model.Scope.TheVariants.{Others, NonAncestors}
use Rattle.acta_table.specs.declared.model.Starts.{Starts}
use Rattle.acta_table.specs.Dependencies.{all_kinds, only_dep, word_of}
use Rattle.acta_table.specs.Kinds.{only_kind}
use Rattle.acta_words.specs.Text.{is_word_among}

-- the words of a `starts` line: how a transaction may start
abbrev pub start_words : List (List ℕ)
start_words = codes "begin" ∷ codes "spawned" ∷ codes "split" ∷ []

-- the starts that are among the words
abbrev pub starts_of : List (List ℕ) → Starts
starts_of words = record {
  begin = is_word_among words (codes "begin");
  spawned = is_word_among words (codes "spawned");
  split = is_word_among words (codes "split");
}

-- the kinds of event that a class may do, by code
abbrev pub may_kinds : List EventKind
may_kinds = Spawn ∷ Split ∷ Join ∷ Delegate ∷ Form ∷ Operate ∷ Commit ∷ Abort ∷ Permit ∷ []

-- the word of a kind of event
abbrev pub may_word : EventKind → List ℕ
may_word Begin = codes "begin"
may_word Spawn = codes "spawn"
may_word Split = codes "split"
may_word Join = codes "join"
may_word Delegate = codes "delegate"
may_word Form = codes "form"
may_word Operate = codes "operate"
may_word Commit = codes "commit"
may_word Abort = codes "abort"
may_word Permit = codes "permit"

-- the kind of event that a word of a `may` line names
abbrev pub may_named : List ℕ → Option EventKind
may_named word = find (λ kind. bytes_eq word (may_word kind)) may_kinds

-- the kind of dependency that a word names
abbrev pub dep_named : List ℕ → Option Dep
dep_named word = find (λ kind. bytes_eq word (word_of kind)) all_kinds

-- the set of these kinds of event, and of these kinds of dependency, as the bits of a number
abbrev pub kinds_of : List EventKind → ℕ
kinds_of kinds = fold (λ bits kind. bit_or bits (only_kind kind)) 0 kinds

abbrev pub deps_of : List Dep → ℕ
deps_of kinds = fold (λ bits kind. bit_or bits (only_dep kind)) 0 kinds

-- the words of the values of a class
abbrev pub scope_word : Scope → List ℕ
scope_word Others = codes "others"
scope_word NonAncestors = codes "nonancestors"

abbrev pub commit_word : AtCommit → List ℕ
commit_word Keeps = codes "keeps"
commit_word ToParent = codes "toparent"

abbrev pub extent_word : Extent → List ℕ
extent_word Whole = codes "whole"
extent_word Any = codes "any"

-- the values that words name
abbrev pub scope_named : List ℕ → Option Scope
scope_named word = find (λ scope. bytes_eq word (scope_word scope)) (Others ∷ NonAncestors ∷ [])

abbrev pub commit_named : List ℕ → Option AtCommit
commit_named word = find (λ commit. bytes_eq word (commit_word commit)) (Keeps ∷ ToParent ∷ [])

abbrev pub extent_named : List ℕ → Option Extent
extent_named word = find (λ extent. bytes_eq word (extent_word extent)) (Whole ∷ Any ∷ [])
