-- A table of what lines did, filled step by step.
use Rattle.std.specs.Prelude.{ℕ, zero, suc, List, [], ◌∷◌, Option, Some}
use Rattle.std.specs.Option.{option_or}
use Rattle.acta_explore.specs.declared.point.Done.{Done}
use Rattle.acta_explore.specs.declared.point.Step.{Step}
use Rattle.acta_explore.specs.Programs.{done_by}

-- the table with this entry at position n, if there was none
abbrev pub noted_at : ℕ → Done → List (Option Done) → List (Option Done)
noted_at n did [] = []
noted_at zero did (done ∷ others) = option_or done (Some did) ∷ others
noted_at (suc n) did (done ∷ others) = done ∷ noted_at n did others

abbrev pub noted : Step → List (Option Done) → List (Option Done)
noted s table = noted_at s.line (done_by s) table
