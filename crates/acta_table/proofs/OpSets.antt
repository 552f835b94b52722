-- The numbers of operations, and the operations of numbers.
use Rattle.std.proofs.Common.{◌≡◌, ℕ, List, [], ◌∷◌, refl}
use Rattle.acta_table.specs.Sets.{numbers_of, numbered}

pub numbers-numbered : (ns : List ℕ) → numbers_of (numbered ns) ≡ ns
numbers-numbered [] = refl
numbers-numbered (n ∷ ns) = λ i. n ∷ numbers-numbered ns i
