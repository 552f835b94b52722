-- Positions that are placed.
use Rattle.std.specs.Prelude.{ℕ, List}

-- the placed positions, the last first, and the number of all positions
pub record Steps : Type 0 where
  pub stack : List ℕ
  pub size : ℕ
