-- Lists of items, each with the number of the operation that made it.
use Rattle.std.specs.Prelude.{ℕ, ◌<◌, ◌==◌, not, ⊤, List, [], ◌∷◌, filter}
use Rattle.std.specs.List.{AllByRecursion}
use Rattle.acta_values.specs.declared.trail.Numbered.{Numbered}

-- the items with other numbers
abbrev pub without : {T : Type 0} → ℕ → List (Numbered T) → List (Numbered T)
without n xs = filter (λ x. not (x.number == n)) xs

-- each has a lower number
abbrev pub AreBelow : {T : Type 0} → ℕ → List (Numbered T) → Type 0
AreBelow n xs = AllByRecursion (λ x. x.number < n) xs

-- each has a higher number
abbrev pub AreAbove : {T : Type 0} → ℕ → List (Numbered T) → Type 0
AreAbove n xs = AllByRecursion (λ x. n < x.number) xs

-- the numbers ascend
abbrev pub IsAscending : {T : Type 0} → List (Numbered T) → Type 0
IsAscending [] = ⊤
IsAscending (x ∷ xs) = AreAbove x.number xs × IsAscending xs

-- the last item, or the default if there is none
abbrev pub last_or : {T : Type 0} → T → List (Numbered T) → T
last_or d [] = d
last_or d (x ∷ xs) = last_or x.item xs
