-- A property of an element that was read is a property of the element at its place.
use Rattle.std.proofs.Common.{◌≡◌, ℕ, ◌<◌, List, length, subst, get_or}
use Rattle.std.proofs.lemmas.List.{get_or_read}

-- what holds of the element at a place holds there, whatever stands in for a list that is too short
pub holds_at : {X : Type 0} (P : X → Type 0) (xs : List X) (i : ℕ) (x : X) → i < length xs → x ≡ get_or xs i x → P x → (d : X) → P (get_or xs i d)
holds_at P xs i x within is h = λ d. subst P (get_or_read xs i x within is d) h
