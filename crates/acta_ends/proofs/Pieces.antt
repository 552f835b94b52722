-- A line from its words, which are written one after another.
use Rattle.std.proofs.Common.{◌≡◌, ℕ, List, [], ◌∷◌, ◌++◌, drop, flat_map, refl, sym, ap, ◌∙◌, append_assoc, append-nil}
use Rattle.std.proofs.lemmas.Grind.{flat_map-append}
use Rattle.acta_words.specs.Text.{line_of, text_of}

-- words, each after a space
abbrev pub spaced : List (List ℕ) → List ℕ
spaced words = flat_map (λ word. 32 ∷ word) words

behind : (word : List ℕ) (words : List (List ℕ)) → line_of (word ∷ words) ≡ word ++ spaced words
behind word [] = sym (append-nil word)
behind word (next ∷ words) = ap (λ t. word ++ 32 ∷ t) (behind next words)

-- no word is written yet
pub none : (text : List ℕ) → text ≡ text ++ spaced []
none text = sym (append-nil text)

-- the same words, then more of them
pub joined : (start before after : List ℕ) (words others : List (List ℕ)) → before ≡ start ++ spaced words → after ≡ before ++ spaced others → after ≡ start ++ spaced (words ++ others)
joined start before after words others h more =
    more ∙ ap (λ t. t ++ spaced others) h ∙ append_assoc start (spaced words) (spaced others) ∙ ap (λ t. start ++ t) (sym (flat_map-append (λ (word : List ℕ). 32 ∷ word) words others))

-- and one more
pub next : (start before after : List ℕ) (words : List (List ℕ)) (word : List ℕ) → before ≡ start ++ spaced words → after ≡ before ++ 32 ∷ word → after ≡ start ++ spaced (words ++ word ∷ [])
next start before after words word h more =
    joined start before after words (word ∷ []) h (more ∙ ap (λ t. before ++ 32 ∷ t) (sym (append-nil word)))

-- the first word, the others, and the end of the line
pub whole : (old start last all first : List ℕ) (words : List (List ℕ)) → start ≡ old ++ first → last ≡ start ++ spaced words → all ≡ last ++ 10 ∷ [] → all ≡ old ++ text_of (line_of (first ∷ words) ∷ [])
whole old start last all first words h1 h2 h3 =
    let end : List ℕ = 10 ∷ [] in
    let line : (first ++ spaced words) ++ end ≡ line_of (first ∷ words) ++ end = ap (λ t. t ++ end) (sym (behind first words)) in
    h3
    ∙ ap (λ t. t ++ end) (h2 ∙ ap (λ t. t ++ spaced words) h1 ∙ append_assoc old first (spaced words))
    ∙ append_assoc old (first ++ spaced words) end
    ∙ ap (λ t. old ++ t) (line ∙ sym (append-nil (line_of (first ∷ words) ++ end)))

-- words without the space before the first are a line
pub unspaced : (words : List (List ℕ)) → drop 1 (spaced words) ≡ line_of words
unspaced [] = refl
unspaced (word ∷ words) = sym (behind word words)
