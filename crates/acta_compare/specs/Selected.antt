-- The items of a list that satisfy a predicate.
use Rattle.std.specs.Prelude.{◌≡◌, ◌⊎◌, List, [], ◌∷◌}

-- the second list has exactly the items of the first for which P holds, in order
abbrev pub Selects : {X : Type 0} → (X → Type 0) → List X → List X → Type 0
Selects P [] found = found ≡ []
Selects {X = X} P (x ∷ xs) found =
    (P x × ((rest : List X) × (found ≡ x ∷ rest) × Selects P xs rest)) ⊎ ((¬ P x) × Selects P xs found)
