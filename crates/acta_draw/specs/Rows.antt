-- What a row of a picture shows of a step.
use Rattle.std.specs.Prelude.{ℕ, ◌+◌, min, List, [], ◌∷◌, Option, None}
use Rattle.acta_table.specs.declared.answer.Answer.{Answer}
use Rattle.acta_table.specs.declared.answer.Answer.TheVariants.{Admitted, Refused}
use Rattle.acta_table.specs.declared.event.Ret.{Ret}
use Rattle.acta_trace.specs.declared.step.Step.{Step}

-- what the operation returned
abbrev pub returned : Answer → Option Ret
returned (Admitted place ret) = ret
returned (Refused rule by) = None

-- the place in the history, where the last place before is this one: a refused event would have had the next
abbrev pub place_after : ℕ → Answer → ℕ
place_after last (Admitted place ret) = place
place_after last (Refused rule by) = min (last + 1) 4294967295

-- the last place after the answer
abbrev pub last_place : ℕ → Answer → ℕ
last_place last (Admitted place ret) = place
last_place last (Refused rule by) = last

-- the place of each step's event, where the last place before is this one
abbrev pub places_from : {A : Type 0} → ℕ → List (Step A) → List ℕ
places_from last [] = []
places_from last (step ∷ steps) = place_after last step.answer ∷ places_from (last_place last step.answer) steps
