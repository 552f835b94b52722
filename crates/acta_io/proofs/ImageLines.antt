-- The line of an image's fault, from its pieces.
use Rattle.std.proofs.Common.{◌≡◌, ℕ, List, [], ◌∷◌, ◌++◌, flat_map, codes, decimal, sym, ap, ◌∙◌, append_assoc, append-nil}
use Rattle.acta_words.specs.Text.{line_of, text_of}
use Rattle.acta_image.specs.declared.fault.ImageFault.{ImageFault}
use Rattle.acta_image.specs.Claims.{image_fault_number}
use Rattle.acta_io.specs.Reports.{fault_number_words, fault_words, image_line}

-- words after others in a line, each after a space
pub behind : (word : List ℕ) (words : List (List ℕ)) → line_of (word ∷ words) ≡ word ++ flat_map (λ w. 32 ∷ w) words
behind word [] = sym (append-nil word)
behind word (next ∷ words) = ap (λ t. word ++ 32 ∷ t) (behind next words)

more : (number : ℕ) (words : List (List ℕ)) → line_of (fault_number_words number ++ words) ≡ line_of (fault_number_words number) ++ flat_map (λ w. 32 ∷ w) words
more number [] = sym (append-nil (line_of (fault_number_words number)))
more number (word ∷ words) = ap (λ t. codes "image fault " ++ (decimal number ++ 32 ∷ t)) (behind word words)

-- the number, and then the rest of the line
pub whole : (fault : ImageFault) (old first all : List ℕ) → first ≡ old ++ line_of (fault_number_words (image_fault_number fault))
    → all ≡ first ++ (flat_map (λ w. 32 ∷ w) (fault_words fault) ++ 10 ∷ []) → all ≡ old ++ text_of (image_line fault ∷ [])
whole fault old first all one two =
    let head = line_of (fault_number_words (image_fault_number fault)) in
    let rest = flat_map (λ (w : List ℕ). 32 ∷ w) (fault_words fault) in
    two
    ∙ ap (λ t. t ++ (rest ++ 10 ∷ [])) one
    ∙ append_assoc old head (rest ++ 10 ∷ [])
    ∙ ap (λ t. old ++ t) (sym (append_assoc head rest (10 ∷ [])) ∙ ap (λ t. t ++ 10 ∷ []) (sym (more (image_fault_number fault) (fault_words fault))) ∙ sym (append-nil (image_line fault ++ 10 ∷ [])))
