-- A run whose refused events have no step after the first so many.
use Rattle.std.specs.Prelude.{ℕ, Bool, false, not, ◌&&◌, if◌then◌else◌, List, [], ◌∷◌, filter, length, nat_le, nat_lt, Option, Some, None, is_none, option_map, slice_get}
use Rattle.acta_table.specs.declared.event.Event.{Event}
use Rattle.acta_machine.specs.Table.{State, refusal_in}
use Rattle.acta_trace.specs.declared.step.Step.{Step}
use Rattle.acta_trace.specs.Steps.{is_admitted}
use Rattle.acta_trace.specs.Traces.{Run, taken}
use Rattle.acta_prose.specs.declared.run_trace.TheConstants.{MOST_RENDERED}

-- whether the event of the step was refused
abbrev pub was_refused : {A : Type 0} → Step A → Bool
was_refused step = not (is_admitted step.answer)

-- how many of the steps are of refused events
unfoldable pub count_refused : {A : Type 0} → List (Step A) → ℕ
count_refused steps = length (filter was_refused steps)

-- the run after the event of a line
abbrev pub noted : {A : Type 0} → Run A → ℕ → Event A → Run A
noted run line event = taken (nat_lt (count_refused run.steps) MOST_RENDERED) run line event

-- whether the event would get a place after the last one
abbrev pub is_past : {A : Type 0} → Option ℕ → State A → Event A → Bool
is_past (Some last) state event = nat_le last (length state.kept) && is_none (refusal_in state event)
is_past None state event = false

-- the run after events, each with its line, up to the first that would get a place after the last one; it ends with the
-- shorter list
abbrev pub noted_up_to : {A : Type 0} → Option ℕ → Run A → List ℕ → List (Event A) → Run A
noted_up_to last run (line ∷ lines) (event ∷ events) =
    if is_past last run.state event then run else noted_up_to last (noted run line event) lines events
noted_up_to last run _ _ = run

-- the line of the step at this place
abbrev pub line_at : {A : Type 0} → List (Step A) → ℕ → Option ℕ
line_at steps place = option_map (λ step. step.line) (slice_get steps place)
