-- Lists that are the same, element by element.
use Rattle.std.proofs.Common.{arith, ◌≡◌, ℕ, ◌+◌, ◌<◌, ◌≤◌, List, [], ◌∷◌, ◌++◌, length, get_or, take, sym, ap, ◌∙◌}
use Rattle.std.proofs.lemmas.List.{take_all, take_more}

pub same_more : {X : Type 0} (xs ys : List X) (i : ℕ) (x y : X) → i < length xs → i < length ys → take i xs ≡ take i ys → x ≡ get_or xs i x → y ≡ get_or ys i y → x ≡ y → take (i + 1) xs ≡ take (i + 1) ys
same_more {X} xs ys i x y in_xs in_ys so_far at_xs at_ys same =
    take_more xs i x in_xs ∙ (λ k. so_far k ++ (sym at_xs ∙ same) k ∷ []) ∙ ap (λ (z : X). take i ys ++ z ∷ []) at_ys ∙ sym (take_more ys i y in_ys)

pub same_all : {X : Type 0} (xs ys : List X) (i : ℕ) → length xs ≡ length ys → length xs ≤ i → take i xs ≡ take i ys → xs ≡ ys
same_all xs ys i long past so_far = sym (take_all i xs past) ∙ so_far ∙ take_all i ys (omega (arith, long, past))
