-- Lists whose items are numbered from 1, and lists of numbers.
use Rattle.std.specs.Prelude.{ℕ, zero, suc, ◌+◌, Bool, List, [], ◌∷◌, min, fold, slice_get, if◌then◌else◌, Option, Some, None}
use Rattle.std.specs.BTreeSet.{insert_key}
use Rattle.std.specs.Ordering.{nat_cmp}
use Rattle.std.specs.List.{position_from}
use Rattle.std.specs.Option.{option_map_or}

-- the item with this number
abbrev pub item_at : {X : Type 0} → List X → ℕ → Option X
item_at xs zero = None
item_at xs (suc k) = slice_get xs k

-- the numbers, ascending, of the items that pass the test, if the first item has the number n
abbrev pub numbers_from : {X : Type 0} → (X → Bool) → ℕ → List X → List ℕ
numbers_from test n [] = []
numbers_from test n (x ∷ xs) =
    if test x then n ∷ numbers_from test (n + 1) xs else numbers_from test (n + 1) xs

-- the numbers, ascending, of the items that pass the test
abbrev pub numbers_where : {X : Type 0} → (X → Bool) → List X → List ℕ
numbers_where test xs = numbers_from test 1 xs

-- the number of the first item that passes the test
abbrev pub first_number : {X : Type 0} → (X → Bool) → List X → Option ℕ
first_number test xs = position_from test 1 xs

-- the smallest of the numbers
abbrev pub smallest : List ℕ → Option ℕ
smallest [] = None
smallest (n ∷ ns) = Some (option_map_or (min n) (smallest ns) n)

-- the numbers in ascending order, each once
abbrev pub ascending : List ℕ → List ℕ
ascending ns = fold (insert_key nat_cmp) [] ns
