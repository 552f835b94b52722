-- The word of a set, from its pieces.
use Rattle.std.proofs.Common.{◌≡◌, ℕ, ◌≤◌, ◌-◌, List, [], ◌∷◌, ◌++◌, map, length, get_or, take, drop, sym, ap, ◌∙◌, append_assoc, arith}
use Rattle.std.specs.Prelude.{ℤ, pos}
use Rattle.std.specs.Fmt.{signed_decimal}
use Rattle.std.specs.List.{join_with_byte, flat_map}
use Rattle.std.proofs.lemmas.List.{append-nil, take_all}
use Rattle.acta_script.specs.Writing.{elements_word}

-- some numbers, each after a comma
abbrev pub behind_commas : List ℤ → List ℕ
behind_commas xs = flat_map (λ x. 44 ∷ signed_decimal x) xs

joined : (w : List ℕ) (xs : List ℤ) → join_with_byte 44 (w ∷ map signed_decimal xs) ≡ w ++ behind_commas xs
joined w [] = sym (append-nil w)
joined w (x ∷ xs) = ap (λ t. w ++ 44 ∷ t) (joined (signed_decimal x) xs)

-- the first number, the others, and the braces
pub whole : (xs : List ℤ) (old one two three all : List ℕ) → 1 ≤ length xs → one ≡ old ++ 32 ∷ [] → two ≡ one ++ 123 ∷ signed_decimal (get_or xs 0 (pos 0))
    → three ≡ two ++ behind_commas (take (length xs - 1) (drop 1 xs)) → all ≡ three ++ 125 ∷ [] → all ≡ old ++ 32 ∷ elements_word xs
whole [] old one two three all some h1 h2 h3 h4 = absurd (omega arith)
whole (x ∷ xs) old one two three all some h1 h2 h3 h4 =
    let first : List ℕ = signed_decimal x in
    let others : List ℕ = behind_commas xs in
    let left : three ≡ two ++ others = h3 ∙ ap (λ ys. two ++ behind_commas ys) (take_all (length (x ∷ xs) - 1) xs (omega arith)) in
    let parts : (first ++ others) ++ 125 ∷ [] ≡ join_with_byte 44 (first ∷ map signed_decimal xs) ++ 125 ∷ [] = ap (λ t. t ++ 125 ∷ []) (sym (joined first xs)) in
    h4
    ∙ ap (λ t. t ++ 125 ∷ []) (left ∙ ap (λ t. t ++ others) (h2 ∙ ap (λ t. t ++ 123 ∷ first) h1))
    ∙ simp append_assoc (ap (λ t. old ++ 32 ∷ 123 ∷ t) (sym (append_assoc first others (125 ∷ [])) ∙ parts))
