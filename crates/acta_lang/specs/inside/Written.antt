-- Pieces of a written text.
use Rattle.std.specs.Prelude.{ℕ, List, [], ◌∷◌, flat_map, map, codes}
use Rattle.acta_table.specs.declared.model.Class.{Class}
use Rattle.acta_words.specs.Text.{line_of, text_of}
use Rattle.acta_lang.specs.Canonical.{may_words, policy_words, starts_words}
use Rattle.acta_lang.specs.Words.{scope_word, commit_word, extent_word}

-- words, each after a space
abbrev pub spaced : List (List ℕ) → List ℕ
spaced words = flat_map (λ word. 32 ∷ word) words

-- the lines of these words, with a line feed after each
abbrev pub written : List (List (List ℕ)) → List ℕ
written lines = text_of (map line_of lines)

-- the lines of a class up to its scope, and from its policy to its delegation
abbrev pub start_lines : {A : Type 0} → Class A → List (List (List ℕ))
start_lines c =
    (codes "class" ∷ c.name ∷ [])
    ∷ (codes "starts" ∷ starts_words c.starts)
    ∷ (codes "may" ∷ may_words c.may)
    ∷ (codes "scope" ∷ scope_word c.scope ∷ [])
    ∷ []

abbrev pub rest_lines : {A : Type 0} → Class A → List (List (List ℕ))
rest_lines c =
    (codes "policy" ∷ policy_words c.policy)
    ∷ (codes "commit" ∷ commit_word c.at_commit ∷ [])
    ∷ (codes "delegation" ∷ extent_word c.extent ∷ [])
    ∷ []
