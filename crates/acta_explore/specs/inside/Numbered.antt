-- Points whose steps did different lines, so that these number the machine's operations.
use Rattle.std.specs.Prelude.{◌≡◌, ⊤, ℕ, ◌==◌, false, List, [], ◌∷◌, length, map}
use Rattle.std.specs.List.{AllByRecursion}
use Rattle.acta_table.specs.declared.event.Kept.{Kept}
use Rattle.acta_explore.specs.declared.point.Step.{Step}
use Rattle.acta_explore.specs.Equivalence.{known}
use Rattle.acta_explore.specs.Points.{Point}
use Rattle.acta_explore.specs.Programs.{operated_lines}

-- each element is related to each later element
abbrev pub Pairs : {X : Type 0} → (X → X → Type 0) → List X → Type 0
Pairs B [] = ⊤
Pairs B (x ∷ xs) = AllByRecursion (B x) xs × Pairs B xs

-- lines that are different
abbrev pub Differ : ℕ → ℕ → Type 0
Differ a b = (a == b) ≡ false

-- no step did this line
abbrev pub IsUndone : List Step → ℕ → Type 0
IsUndone steps l = AllByRecursion (λ s. Differ s.line l) steps

-- each step did a line of its own
abbrev pub HaveOwnLines : List Step → Type 0
HaveOwnLines steps = Pairs Differ (map (λ s. s.line) steps)

-- the steps are those of the events, in order, with the same returns
abbrev pub ReturnAsKept : {A : Type 0} → List Step → List (Kept A) → Type 0
ReturnAsKept steps kept = map (λ s. s.ret) steps ≡ map (λ k. k.ret) kept

-- each line was done at most once, and the machine has as many operations as lines did
pub record IsNumbered {A : Type 0} (p : Point A) : Type 0 where
  pub lines : HaveOwnLines p.steps
  pub counted : length (operated_lines p.steps) ≡ length (known p).operations
