-- The point from which programs continue a machine's history: its events are lines of seat 0, all done.
use Rattle.std.specs.Prelude.{ℕ, ◌+◌, List, [], ◌∷◌, ◌++◌, map}
use Rattle.acta_table.specs.declared.event.Kept.{Kept}
use Rattle.acta_script.specs.declared.programs.ProgramLine.{ProgramLine}
use Rattle.acta_machine.specs.Table.{State}
use Rattle.acta_explore.specs.declared.point.Step.{Step}
use Rattle.acta_explore.specs.Points.{Point}
use Rattle.acta_explore.specs.Programs.{Programs}

-- the line of seat 0 whose only alternative is the event
abbrev pub history_line : {A : Type 0} → Kept A → ProgramLine A
history_line kept = record { seat = 0; alternatives = kept.event ∷ [] }

-- the step that does the line at position n
abbrev pub history_step : {A : Type 0} → ℕ → Kept A → Step
history_step n kept = record { seat = 0; line = n; alternative = 0; ret = kept.ret }

-- the steps that do the lines from position n on, in order
abbrev pub history_steps : {A : Type 0} → ℕ → List (Kept A) → List Step
history_steps n [] = []
history_steps n (kept ∷ others) = history_step n kept ∷ history_steps (n + 1) others

-- the point at which exactly the lines of the history are done
abbrev pub after_history : {A : Type 0} → State A → Point A
after_history state = record { steps = history_steps 0 state.kept; state = state }

-- programs that continue from there: the lines of the history, followed by those of the seats
abbrev pub programs_after : {A : Type 0} → State A → Programs A → Programs A
programs_after state lines = map history_line state.kept ++ lines
