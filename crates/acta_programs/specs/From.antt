-- The words for programs that continue from the state of a machine.
use Rattle.std.specs.Prelude.{◌⊎◌, ◌++◌, ◌==◌, ℕ, List, length, codes, decimal, if◌then◌else◌}
use Rattle.std.specs.Io.{StartsWith}
use Rattle.acta_machine.specs.Table.{State}
use Rattle.acta_explore.specs.Ends.{AreAllEndsFrom, IsTooMany}
use Rattle.acta_explore.specs.Histories.{after_history, programs_after}
use Rattle.acta_explore.specs.Points.{Point}
use Rattle.acta_explore.specs.Programs.{Programs}

-- the number of ends: no end, 1 end, 2 ends and so on
abbrev pub ends_line : ℕ → List ℕ
ends_line n = if n == 0 then codes "no end" else (if n == 1 then codes "1 end" else decimal n ++ codes " ends")

-- incomplete: N points and M ends, the numbers found before the search was given up
abbrev pub given_up_line : ℕ → ℕ → List ℕ
given_up_line points ends =
    codes "incomplete: " ++ (decimal points ++ (codes " points and " ++ (decimal ends ++ codes " ends")))

-- the search was given up, and the text begins with the numbers of points, more than allowed, and ends that it found
abbrev pub IsGivenUp : {A : Type 0} → ℕ → Programs A → Point A → List ℕ → Type 0
IsGivenUp most programs root text =
    (points : ℕ) × (ends : ℕ) × IsTooMany programs root most points ends × StartsWith text (given_up_line points ends)

-- all ends that programs can reach from the root were found, and the text begins with their number
abbrev pub IsOfAllEnds : {A : Type 0} → Programs A → Point A → List ℕ → Type 0
IsOfAllEnds {A = A} programs root text =
    (ends : List (Point A)) × AreAllEndsFrom programs root ends × StartsWith text (ends_line (length ends))

-- the text for programs that continue from the root: for all ends, unless the search was given up
abbrev pub IsAnswerFrom : {A : Type 0} → ℕ → Programs A → Point A → List ℕ → Type 0
IsAnswerFrom most programs root text = IsOfAllEnds programs root text ⊎ IsGivenUp most programs root text

-- the text for lines of seats that continue from the state of a machine, whose history counts as the first lines
abbrev pub IsAnswerAfter : {A : Type 0} → ℕ → State A → Programs A → List ℕ → Type 0
IsAnswerAfter most state lines text = IsAnswerFrom most (programs_after state lines) (after_history state) text
