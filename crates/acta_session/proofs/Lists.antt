use Rattle.std.proofs.Common.{◌≡◌, ◌++◌, ◌∷◌, [], ◌∙◌, ap, sym, ℕ, List}
use Rattle.std.proofs.lemmas.List.{append_assoc, append-nil}
use Rattle.acta_session.specs.Help.{IsListOf, listed_line}

-- a list with one more line at its end
pub one_more : (forms : List (List ℕ)) (lines form words : List ℕ) → IsListOf forms lines → IsListOf (forms ++ form ∷ []) (lines ++ listed_line form words)
one_more [] lines form words is = (words, [], ap (λ xs. xs ++ listed_line form words) is ∙ sym (append-nil (listed_line form words)), λ i. [])
one_more (first ∷ forms) lines form words (w, rest, whole, is) =
    (w, rest ++ listed_line form words, ap (λ xs. xs ++ listed_line form words) whole ∙ append_assoc (listed_line first w) rest (listed_line form words), one_more forms rest form words is)
