-- Marks packed to words of 64 bits.
use Rattle.std.specs.Prelude.{ℕ, zero, suc, ◌+◌, ◌*◌, Bool, cond, List, [], ◌∷◌, take, drop, fold}

-- with one bit more
abbrev pub with_bit : ℕ → Bool → ℕ
with_bit n b = 2 * n + cond b 1 0

-- the number with these bits, the highest first
abbrev pub number_of : List Bool → ℕ
number_of bits = fold with_bit 0 bits

-- this many words; the first has the first 64 marks
abbrev pub packed : ℕ → List Bool → List ℕ
packed zero marks = []
packed (suc n) marks = number_of (take 64 marks) ∷ packed n (drop 64 marks)
