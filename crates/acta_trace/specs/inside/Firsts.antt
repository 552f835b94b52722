-- The first step for each number.
use Rattle.std.specs.Prelude.{◌≡◌, ℕ, ◌&&◌, ◌==◌, Bool, false, List, Option, Some, None, get_or, if◌then◌else◌, is_none}
use Rattle.std.specs.List.{position}

-- the place for the number n, after this place is noted for the numbers that pass and have none
abbrev pub noted : (ℕ → Bool) → List (Option ℕ) → ℕ → ℕ → Option ℕ
noted passes places place n =
    if passes n && is_none (get_or places n None) then Some place else get_or places n None

abbrev pub is_at : ℕ → Option ℕ → Bool
is_at place None = false
is_at place (Some i) = i == place

-- the place for the number n, after it is removed from the numbers that pass
abbrev pub forgotten : (ℕ → Bool) → List (Option ℕ) → ℕ → ℕ → Option ℕ
forgotten passes places place n =
    if passes n && is_at place (get_or places n None) then None else get_or places n None

-- each number has the place of the first item for which the test holds
abbrev pub AreFirsts : {X : Type 0} → (ℕ → X → Bool) → List X → List (Option ℕ) → Type 0
AreFirsts has xs places = (n : ℕ) → get_or places n None ≡ position (has n) xs
