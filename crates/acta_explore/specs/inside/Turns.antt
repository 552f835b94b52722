-- The turns that may be tried at a point, and what they lead to.
use Rattle.std.specs.Prelude.{ℕ, Bool, true, false, List, [], ◌∷◌, filter, map}
use Rattle.std.specs.List.{flat_map, filter_map, range_with_len}
use Rattle.std.specs.Option.{option_map_or}
use Rattle.std.specs.Prelude.{Option}
use Rattle.acta_explore.specs.declared.point.Done.{Done}
use Rattle.acta_explore.specs.declared.point.Turn.{Turn}
use Rattle.acta_explore.specs.Outcomes.{alternatives_at, seats_of}
use Rattle.acta_explore.specs.Points.{Point, stepped}
use Rattle.acta_explore.specs.Programs.{Programs, lines_done, next_from}

-- a turn for each alternative of the line at position l
abbrev pub turns_of_line : {A : Type 0} → Programs A → ℕ → ℕ → List Turn
turns_of_line programs seat l =
    map (λ alternative. record { seat = seat; alternative = alternative }) (range_with_len 0 (alternatives_at programs l))

-- the turns of a seat; the list has what each line did
abbrev pub turns_of_seat : {A : Type 0} → Programs A → List (Option Done) → ℕ → List Turn
turns_of_seat programs done seat = option_map_or (turns_of_line programs seat) (next_from 0 programs done seat) []

-- the turns of all seats, by seat and then by alternative
abbrev pub turns_at : {A : Type 0} → Programs A → List (Option Done) → List Turn
turns_at programs done = flat_map (turns_of_seat programs done) (seats_of programs)

-- the points after each step from a point, in that order
abbrev pub successors : {A : Type 0} → Programs A → Point A → List (Point A)
successors programs p = filter_map (stepped programs p) (turns_at programs (lines_done programs p.steps))

abbrev pub is_nil : {X : Type 0} → List X → Bool
is_nil [] = true
is_nil (x ∷ xs) = false

-- the points of the list that have no step
abbrev pub ends_among : {A : Type 0} → Programs A → List (Point A) → List (Point A)
ends_among programs points = filter (λ p. is_nil (successors programs p)) points
