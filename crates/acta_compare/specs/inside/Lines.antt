-- A machine's answers line by line, from any state.
use Rattle.std.specs.Prelude.{ℕ, List, Option, Some, None, option_map, Result, Ok, Err}
use Rattle.acta_table.specs.declared.event.Event.{Event}
use Rattle.acta_script.specs.declared.fault.LineFault.{LineFault}
use Rattle.acta_script.specs.Reading.{event_of}
use Rattle.acta_io.specs.Input.{parsed_by}
use Rattle.acta_machine.specs.Table.{State, after, after_all, answer_to, answers_to}
use Rattle.acta_compare.specs.declared.seen.Seen.{Seen}
use Rattle.acta_compare.specs.declared.seen.Seen.TheVariants.{Unread}
use Rattle.acta_compare.specs.Seen.{events_among, parsed_each, seen_of, seen_with}

-- the answer to a parsed line
abbrev pub seen_by : {A : Type 0} → State A → Result (Event A) LineFault → Seen
seen_by state (Ok event) = seen_of (answer_to state event)
seen_by state (Err fault) = Unread fault

-- the state after a parsed line
abbrev pub state_by : {A : Type 0} → State A → Option (Result (Event A) LineFault) → State A
state_by state None = state
state_by state (Some (Ok event)) = after state event
state_by state (Some (Err fault)) = state

-- the answer to a line, if it has a word
abbrev pub seen_at : {A : Type 0} → State A → List ℕ → Option Seen
seen_at state line = option_map (seen_by state) (parsed_by (event_of state.model) line)

-- the state after a line
abbrev pub state_at : {A : Type 0} → State A → List ℕ → State A
state_at state line = state_by state (parsed_by (event_of state.model) line)

-- the answers to the lines that have a word
abbrev pub seen_from : {A : Type 0} → State A → List (List ℕ) → List Seen
seen_from state lines =
    seen_with (parsed_each state.model lines) (answers_to state (events_among (parsed_each state.model lines)))

-- the state after the lines
abbrev pub state_from : {A : Type 0} → State A → List (List ℕ) → State A
state_from state lines = after_all state (events_among (parsed_each state.model lines))
