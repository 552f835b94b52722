-- The line of an entry, from its pieces.
use Rattle.std.proofs.Common.{◌≡◌, ℕ, List, [], ◌∷◌, ◌++◌, codes, sym, ap, ◌∙◌, append_assoc, append-nil}
use Rattle.acta_words.specs.Text.{line_of, text_of}

pub next : (new old piece rest : List ℕ) → new ≡ old ++ piece → new ++ rest ≡ old ++ (piece ++ rest)
next new old piece rest h = ap (λ t. t ++ rest) h ∙ append_assoc old piece rest

-- the pieces, one after the other, and the end of the line
pub whole : (old number seat event answer one two three four five all : List ℕ) → one ≡ old ++ number → two ≡ one ++ 32 ∷ seat → three ≡ two ++ 32 ∷ event
    → four ≡ three ++ 32 ∷ codes ":" → five ≡ four ++ 32 ∷ answer → all ≡ five ++ text_of ([] ∷ [])
    → all ≡ old ++ text_of (line_of (number ∷ seat ∷ event ∷ codes ":" ∷ answer ∷ []) ∷ [])
whole old number seat event answer one two three four five all h1 h2 h3 h4 h5 h6 =
    let r5 = 32 ∷ (answer ++ 10 ∷ []) in
    let r4 = 32 ∷ (codes ":" ++ r5) in
    let r3 = 32 ∷ (event ++ r4) in
    let r2 = 32 ∷ (seat ++ r3) in
    let l5 = 32 ∷ answer in
    let l4 = 32 ∷ (codes ":" ++ l5) in
    let l3 = 32 ∷ (event ++ l4) in
    let l2 = 32 ∷ (seat ++ l3) in
    let e3 : l3 ++ 10 ∷ [] ≡ r3 = ap (λ t. 32 ∷ t) (append_assoc event l4 (10 ∷ [])) in
    let e2 : l2 ++ 10 ∷ [] ≡ r2 = ap (λ t. 32 ∷ t) (append_assoc seat l3 (10 ∷ []) ∙ ap (λ t. seat ++ t) e3) in
    let line : (number ++ l2) ++ 10 ∷ [] ≡ number ++ r2 = append_assoc number l2 (10 ∷ []) ∙ ap (λ t. number ++ t) e2 in
    h6
    ∙ next five four (32 ∷ answer) (10 ∷ []) h5
    ∙ next four three (32 ∷ codes ":") r5 h4
    ∙ next three two (32 ∷ event) r4 h3
    ∙ next two one (32 ∷ seat) r3 h2
    ∙ next one old number r2 h1
    ∙ ap (λ t. old ++ t) (sym line ∙ sym (append-nil ((number ++ l2) ++ 10 ∷ [])))
