-- A text that is written piece by piece.
use Rattle.std.proofs.Common.{◌≡◌, ℕ, ◌+◌, ◌<◌, Bool, true, false, List, [], ◌∷◌, ◌++◌, map, filter, flat_map, drop, get_or, length, cond, refl, sym, ap, ◌∙◌, append_assoc}
use Rattle.std.proofs.lemmas.List.{append-nil, at_drop_more}
use Rattle.acta_words.specs.Text.{line_of}
use Rattle.acta_lang.specs.Canonical.{word_if}
use Rattle.acta_lang.specs.inside.Written.{spaced, written}

-- the line of some words is the first, and each other after a space
pub line_spaced : (word : List ℕ) (words : List (List ℕ)) → line_of (word ∷ words) ≡ word ++ spaced words
line_spaced word [] = sym (append-nil word)
line_spaced word (next ∷ words) = ap (λ t. word ++ 32 ∷ t) (line_spaced next words)

pub written-append : (a b : List (List (List ℕ))) → written (a ++ b) ≡ written a ++ written b
written-append [] b = refl
written-append (l ∷ ls) b = ap (λ t. (line_of l ++ 10 ∷ []) ++ t) (written-append ls b) ∙ sym (append_assoc (line_of l ++ 10 ∷ []) (written ls) (written b))

-- a line, written from its first word to its line feed
pub line_written : (old first : List ℕ) (words : List (List ℕ)) → ((old ++ first) ++ spaced words) ++ 10 ∷ [] ≡ old ++ written ((first ∷ words) ∷ [])
line_written old first words =
    ap (λ t. t ++ 10 ∷ []) (append_assoc old first (spaced words))
    ∙ append_assoc old (first ++ spaced words) (10 ∷ [])
    ∙ ap (λ t. old ++ (t ++ 10 ∷ [])) (sym (line_spaced first words))
    ∙ ap (λ t. old ++ t) (sym (append-nil (line_of (first ∷ words) ++ 10 ∷ [])))

-- the same, with names for the texts between the pieces
pub line_pieces : (old first : List ℕ) (words : List (List ℕ)) (a b c : List ℕ) → a ≡ old ++ first → b ≡ a ++ spaced words → c ≡ b ++ 10 ∷ [] → c ≡ old ++ written ((first ∷ words) ∷ [])
line_pieces old first words a b c begun parsed ended =
    ended ∙ ap (λ t. t ++ 10 ∷ []) (parsed ∙ ap (λ t. t ++ spaced words) begun) ∙ line_written old first words

-- a word more before others
pub word_more : (old text new word : List ℕ) (words : List (List ℕ)) → text ≡ old ++ 32 ∷ word → new ≡ text ++ spaced words → new ≡ old ++ spaced (word ∷ words)
word_more old text new word words begun more = more ∙ ap (λ t. t ++ spaced words) begun ∙ append_assoc old (32 ∷ word) (spaced words)

-- lines after lines
pub lines_more : (old text new : List ℕ) (a b : List (List (List ℕ))) → text ≡ old ++ written a → new ≡ text ++ written b → new ≡ old ++ written (a ++ b)
lines_more old text new a b begun more =
    more ∙ ap (λ t. t ++ written b) begun ∙ append_assoc old (written a) (written b) ∙ ap (λ t. old ++ t) (sym (written-append a b))

one_kept : {X : Type 0} (f : X → List ℕ) (p : X → Bool) (x : X) (hit : Bool) (xs : List X) → hit ≡ p x → spaced (word_if hit (f x)) ++ spaced (map f (filter p xs)) ≡ spaced (map f (filter p (x ∷ xs)))
one_kept f p x true xs same =
    append_assoc (32 ∷ f x) [] (spaced (map f (filter p xs))) ∙ ap (λ b. spaced (map f (cond b (x ∷ filter p xs) (filter p xs)))) same
one_kept f p x false xs same = ap (λ b. spaced (map f (cond b (x ∷ filter p xs) (filter p xs)))) same

-- the next of some words is written where it is kept
pub word_step : {X : Type 0} (f : X → List ℕ) (p : X → Bool) (xs : List X) (i : ℕ) (d : X) (old new word : List ℕ) (hit : Bool) → i < length xs
    → new ≡ old ++ spaced (word_if hit word) → hit ≡ p (get_or xs i d) → word ≡ f (get_or xs i d)
    → new ++ spaced (map f (filter p (drop (i + 1) xs))) ≡ old ++ spaced (map f (filter p (drop i xs)))
word_step f p xs i d old new word hit inside more tested is =
    let x = get_or xs i d in
    let rest = spaced (map f (filter p (drop (i + 1) xs))) in
    ap (λ t. t ++ rest) (more ∙ ap (λ w. old ++ spaced (word_if hit w)) is)
    ∙ append_assoc old (spaced (word_if hit (f x))) rest
    ∙ ap (λ t. old ++ t) (one_kept f p x hit (drop (i + 1) xs) tested)
    ∙ sym (at_drop_more (λ ys. old ++ spaced (map f (filter p ys))) xs i d inside)

-- the lines of the next item are written
pub lines_step : {X : Type 0} (f : X → List (List (List ℕ))) (xs : List X) (i : ℕ) (x : X) (old new : List ℕ) → i < length xs → x ≡ get_or xs i x → new ≡ old ++ written (f x)
    → new ++ written (flat_map f (drop (i + 1) xs)) ≡ old ++ written (flat_map f (drop i xs))
lines_step f xs i x old new inside is more =
    let rest = flat_map f (drop (i + 1) xs) in
    ap (λ t. t ++ written rest) (more ∙ ap (λ y. old ++ written (f y)) is)
    ∙ append_assoc old (written (f (get_or xs i x))) (written rest)
    ∙ ap (λ t. old ++ t) (sym (written-append (f (get_or xs i x)) rest))
    ∙ sym (at_drop_more (λ ys. old ++ written (flat_map f ys)) xs i x inside)
