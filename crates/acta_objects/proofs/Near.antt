-- The distance of a counter from zero: each amount fits 32 bits, so with fewer than 2^31 operations the sum fits 64.
use Rattle.std.specs.Prelude.{ℕ, ◌*◌, ◌^◌, ℤ, pos, ◌≤ℤ◌, ◌+ℤ◌, ⊤}
use Rattle.acta_objects.specs.declared.state.ObjectState.{ObjectState}
use Rattle.acta_objects.specs.declared.state.ObjectState.TheVariants.{Counter}

-- the number is at most n times 2^31 from zero
pub record IsNear (n : ℕ) (v : ℤ) : Type 0 where
  pub low : pos 0 ≤ℤ (v +ℤ pos (n * 2 ^ 31))
  pub high : v ≤ℤ pos (n * 2 ^ 31)

-- a counter is
abbrev pub IsSmall : {A : Type 0} → ℕ → ObjectState A → Type 0
IsSmall n (Counter v) = IsNear n v
IsSmall n _ = ⊤
