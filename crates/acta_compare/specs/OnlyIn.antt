-- Items in only one of two lists.
use Rattle.std.specs.Prelude.{◌≡◌, ℕ, List, length, slice_get, IsSomeAnd}
use Rattle.std.specs.List.{Contains, range_with_len}
use Rattle.acta_explore.specs.Ends.{Found}
use Rattle.acta_compare.specs.Selected.{Selects}

-- the item is not among those of the list
abbrev pub IsMissing : {X : Type 0} → List X → X → Type 0
IsMissing xs x = ¬ Contains xs x

-- the first list has an item at this place, from 0, and the second list does not have this item
abbrev pub IsOnlyIn : {X : Type 0} → List X → List X → ℕ → Type 0
IsOnlyIn xs others place = IsSomeAnd (slice_get xs place) (IsMissing others)

-- the places, from 0, of all items of the first list that the second does not have, in order
abbrev pub AreOnlyIn : {X : Type 0} → List X → List X → List ℕ → Type 0
AreOnlyIn xs others places = Selects (IsOnlyIn xs others) (range_with_len 0 (length xs)) places

-- the search found as many outcomes as ends
abbrev pub HasOutcomes : {A : Type 0} → Found A → Type 0
HasOutcomes found = length found.outcomes ≡ length found.ends
