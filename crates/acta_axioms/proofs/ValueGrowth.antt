-- The view and values when one kept item is appended to a history.
use Rattle.std.proofs.Common.{inl, inr, ◌≡◌, ℕ, Bool, true, false, ◌&&◌, ◌==◌, cond, List, [], ◌∷◌, filter, refl, sym, ap, ◌∙◌}
use Rattle.std.proofs.lemmas.Bool.{cases_eq, eq-eqb, ne_eqb}
use Rattle.acta_table.specs.declared.event.Event.{Event}
use Rattle.acta_table.specs.declared.event.Event.TheVariants.{Abort}

-- two tests, one after the other
pub filter-both : {X : Type 0} (p q : X → Bool) (xs : List X) → filter (λ x. p x && q x) xs ≡ filter q (filter p xs)
filter-both p q [] = refl
filter-both p q (x ∷ xs) = of_test (p x) (filter-both p q xs)
  where
    of_test : (b : Bool) → filter (λ y. p y && q y) xs ≡ filter q (filter p xs) →
        cond (b && q x) (x ∷ filter (λ y. p y && q y) xs) (filter (λ y. p y && q y) xs) ≡ filter q (cond b (x ∷ filter p xs) (filter p xs))
    of_test true later = ap (λ ys. cond (q x) (x ∷ ys) ys) later
    of_test false later = later

-- whether the event is an abort
abbrev pub aborts : {A : Type 0} → Event A → Bool
aborts (Abort t) = true
aborts _ = false

pub eqb-turned : (a b : ℕ) → (a == b) ≡ (b == a)
eqb-turned a b = elim (cases_eq a b) [ inl e ↦ eq-eqb a b e ∙ sym (eq-eqb b a (sym e)) | inr n ↦ ne_eqb a b n ∙ sym (ne_eqb b a (λ e. n (sym e))) ]
