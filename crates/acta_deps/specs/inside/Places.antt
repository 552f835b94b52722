-- The last place of a number in a list, counted from 1.
use Rattle.std.specs.Prelude.{ℕ, zero, suc, ◌==◌, List, get_or, if◌then◌else◌}

-- the last place of t among the first n numbers, or 0 if there is none
abbrev pub latest : List ℕ → ℕ → ℕ → ℕ
latest ts t zero = 0
latest ts t (suc n) = if get_or ts n 0 == t then suc n else latest ts t n
