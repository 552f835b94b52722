-- Courses whose places are among the first n.
use Rattle.std.specs.Prelude.{ℕ, ◌≤◌, Option, Some, None, ⊤}
use Rattle.acta_axioms.specs.declared.course.Course.{Course}

-- the place is at most n, if there is one
abbrev pub within : ℕ → Option ℕ → Type 0
within n None = ⊤
within n (Some m) = m ≤ n

-- every place of the course is at most n
pub record IsWithin (n : ℕ) (c : Course) : Type 0 where
  pub start : within n c.start
  pub commit : within n c.commit
  pub abort : within n c.abort
  pub join : within n c.join
