-- Words behind references, as the words themselves.
use Rattle.std.proofs.Common.{◌≡◌, ℕ, ◌+◌, Bool, cond, ◌||◌, List, [], ◌∷◌, map, Some, refl, ap}
use Rattle.std.specs.List.{list_any, position_from}

pub list_any-map : {X Y : Type 0} (p : X → Bool) (f : Y → X) (ys : List Y) → list_any p (map f ys) ≡ list_any (λ y. p (f y)) ys
list_any-map p f [] = refl
list_any-map p f (y ∷ ys) = ap (λ b. p (f y) || b) (list_any-map p f ys)

pub position_mapped : {X Y : Type 0} (p : X → Bool) (f : Y → X) (i : ℕ) (ys : List Y) → position_from p i (map f ys) ≡ position_from (λ y. p (f y)) i ys
position_mapped p f i [] = refl
position_mapped p f i (y ∷ ys) = ap (λ o. cond (p (f y)) (Some i) o) (position_mapped p f (i + 1) ys)
