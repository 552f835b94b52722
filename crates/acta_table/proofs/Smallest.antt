-- The smallest number of a list, found from the front.
use Rattle.std.proofs.Common.{◌≡◌, ℕ, List, [], ◌∷◌, Option, Some, None, min, refl, ap, ◌∙◌, arith}
use Rattle.std.specs.Option.{option_map_or}
use Rattle.acta_table.specs.Numbered.{smallest}

-- the smallest of those before, if there are any, and of the list
abbrev pub least_from : Option ℕ → List ℕ → Option ℕ
least_from least [] = least
least_from least (n ∷ ns) = least_from (Some (option_map_or (min n) least n)) ns

min_swap : (n m : ℕ) → min n m ≡ min m n
min_swap n m = omega arith

min_assoc : (n m k : ℕ) → min (min n m) k ≡ min m (min n k)
min_assoc n m k = omega arith

with_more : (n m : ℕ) (o : Option ℕ) → option_map_or (min (min n m)) o (min n m) ≡ min m (option_map_or (min n) o n)
with_more n m None = min_swap n m
with_more n m (Some k) = min_assoc n m k

least_above : (m : ℕ) (ns : List ℕ) → least_from (Some m) ns ≡ Some (option_map_or (min m) (smallest ns) m)
least_above m [] = refl
least_above m (n ∷ ns) =
    least_above (min n m) ns ∙ ap (λ k. Some k) (with_more n m (smallest ns))

pub least_is_smallest : (ns : List ℕ) → least_from None ns ≡ smallest ns
least_is_smallest [] = refl
least_is_smallest (n ∷ ns) = least_above n ns
