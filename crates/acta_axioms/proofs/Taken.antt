-- Whether one of the first items of a list passes a test.
use Rattle.std.proofs.Common.{◌≡◌, ℕ, ◌+◌, ◌<◌, Bool, true, false, ◌&&◌, ◌||◌, List, [], ◌∷◌, ◌++◌, length, take, get_or, refl, sym, ap, ◌∙◌}
use Rattle.std.specs.List.{list_any}
use Rattle.std.proofs.lemmas.List.{take_more}
use Rattle.std.proofs.lemmas.List.Folds.{list_any-append}

and_true : (b : Bool) → (b && true) ≡ b
and_true true = refl
and_true false = refl

and_false : (b : Bool) → (b && false) ≡ false
and_false true = refl
and_false false = refl

or_false : (b : Bool) → (b || false) ≡ b
or_false true = refl
or_false false = refl

pub any-taken : {X : Type 0} (test : X → Bool) (xs : List X) (n : ℕ) (d : X) → n < length xs → list_any test (take (n + 1) xs) ≡ (list_any test (take n xs) || test (get_or xs n d))
any-taken test xs n d within =
    ap (list_any test) (take_more xs n d within)
    ∙ list_any-append test (take n xs) (get_or xs n d ∷ [])
    ∙ ap (λ b. list_any test (take n xs) || b) (or_false (test (get_or xs n d)))

-- appending an item that counts to those found
pub one-more : {X : Type 0} (named counts : X → Bool) (found seen : List X) (x : X) → counts x ≡ true → list_any named found ≡ list_any (λ y. named y && counts y) seen
    → list_any named (found ++ x ∷ []) ≡ (list_any (λ y. named y && counts y) seen || (named x && counts x))
one-more named counts found seen x is same =
    list_any-append named found (x ∷ [])
    ∙ (λ i. same i || (or_false (named x) ∙ sym (and_true (named x)) ∙ ap (λ b. named x && b) (sym is)) i)

-- the same for an item that does not count
pub one-fewer : {X : Type 0} (named counts : X → Bool) (found seen : List X) (x : X) → counts x ≡ false → list_any named found ≡ list_any (λ y. named y && counts y) seen
    → list_any named found ≡ (list_any (λ y. named y && counts y) seen || (named x && counts x))
one-fewer named counts found seen x is same =
    same ∙ sym (or_false (list_any (λ y. named y && counts y) seen)) ∙ ap (λ b. list_any (λ y. named y && counts y) seen || b) (sym (and_false (named x)) ∙ ap (λ b. named x && b) (sym is))
