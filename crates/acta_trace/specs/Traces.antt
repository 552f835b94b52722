-- A run with its steps.
use Rattle.std.specs.Prelude.{◌||◌, ℕ, Bool, List, [], ◌∷◌, ◌++◌, if◌then◌else◌}
use Rattle.acta_table.specs.declared.event.Event.{Event}
use Rattle.acta_table.specs.declared.model.Parts.{Parts}
use Rattle.acta_machine.specs.Table.{State, after, answer_to, fresh}
use Rattle.acta_trace.specs.declared.step.Step.{Step}
use Rattle.acta_trace.specs.Steps.{is_admitted, step_of}

-- a run so far: the machine, and the steps kept
pub record Run (A : Type 0) : Type 0 where
  pub state : State A
  pub steps : List (Step A)

-- before any event
abbrev pub not_begun : {A : Type 0} → Parts A → Run A
not_begun m = record { state = fresh m; steps = [] }

-- whether the step of an event is kept: always if it is admitted, otherwise only if refused steps are kept
abbrev pub keeps_step : {A : Type 0} → Bool → State A → Event A → Bool
keeps_step keeps_refused state event = keeps_refused || is_admitted (answer_to state event)

-- the run after the event of a line
unfoldable pub taken : {A : Type 0} → Bool → Run A → ℕ → Event A → Run A
taken keeps_refused run line event = record {
  state = after run.state event;
  steps = if keeps_step keeps_refused run.state event then run.steps ++ step_of run.state line event ∷ [] else run.steps;
}
