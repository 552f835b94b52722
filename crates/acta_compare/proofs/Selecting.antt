-- One item after another is selected, or passed over.
use Rattle.std.proofs.Common.{◌≡◌, ◌<◌, ◌≤◌, ℕ, zero, suc, ◌+◌, List, [], ◌∷◌, ◌++◌, length, drop, Option, Some, None, refl, sym, ap, subst, ◌∙◌, inl, inr, arith}
use Rattle.std.specs.Prelude.{slice_get, unwrap_or}
use Rattle.std.proofs.lemmas.List.{append-nil, append_assoc}
use Rattle.acta_compare.specs.Selected.{Selects}

-- what is found before the place i, with what is to be selected of the rest, is what is to be selected of all
abbrev pub IsSoFar : {X : Type 0} → (X → Type 0) → List X → ℕ → List X → Type 0
IsSoFar {X = X} P xs i found = (rest : List X) → Selects P (drop i xs) rest → Selects P xs (found ++ rest)

-- the items from a place on
pub drop-some : {X : Type 0} (xs : List X) (i : ℕ) (x : X) → slice_get xs i ≡ Some x → drop i xs ≡ x ∷ drop (i + 1) xs
drop-some [] i x h = cc
drop-some (y ∷ ys) zero x h = ap (λ o. unwrap_or o x ∷ ys) h
drop-some (y ∷ ys) (suc i) x h =
    let next : suc i + 1 ≡ suc (i + 1) = omega arith in
    drop-some ys i x h ∙ ap (λ (k : ℕ). x ∷ drop k (y ∷ ys)) (sym next)

pub drop-none : {X : Type 0} (xs : List X) (i : ℕ) → slice_get xs i ≡ None → drop i xs ≡ []
drop-none [] zero h = refl
drop-none [] (suc i) h = refl
drop-none (y ∷ ys) zero h = cc
drop-none (y ∷ ys) (suc i) h = drop-none ys i h

-- the next item is selected
pub selected-item : {X : Type 0} (P : X → Type 0) (xs : List X) (i : ℕ) (x : X) (found : List X) → slice_get xs i ≡ Some x → P x → IsSoFar P xs i found → IsSoFar P xs (i + 1) (found ++ x ∷ [])
selected-item P xs i x found is holds so_far rest h =
    subst (λ (ys : List _). Selects P xs ys) (sym (append_assoc found (x ∷ []) rest))
    (so_far (x ∷ rest) (subst (λ (ys : List _). Selects P ys (x ∷ rest)) (sym (drop-some xs i x is)) (inl (holds, (rest, refl, h)))))

-- the next item is passed over
pub passed-item : {X : Type 0} (P : X → Type 0) (xs : List X) (i : ℕ) (x : X) (found : List X) → slice_get xs i ≡ Some x → (P x → ⊥) → IsSoFar P xs i found → IsSoFar P xs (i + 1) found
passed-item P xs i x found is fails so_far rest h =
    so_far rest (subst (λ (ys : List _). Selects P ys rest) (sym (drop-some xs i x is)) (inr (fails, h)))

-- no item is left
pub selected-all : {X : Type 0} (P : X → Type 0) (xs : List X) (i : ℕ) (found : List X) → slice_get xs i ≡ None → IsSoFar P xs i found → Selects P xs found
selected-all P xs i found none so_far =
    subst (λ (ys : List _). Selects P xs ys) (append-nil found)
    (so_far [] (subst (λ (ys : List _). Selects P ys []) (sym (drop-none xs i none)) refl))
