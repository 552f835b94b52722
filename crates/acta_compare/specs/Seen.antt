-- A model's answers to the lines of an input.
use Rattle.std.specs.Prelude.{ℕ, List, [], ◌∷◌, Result, Ok, Err}
use Rattle.std.specs.List.{filter_map}
use Rattle.acta_table.specs.declared.answer.Answer.{Answer}
use Rattle.acta_table.specs.declared.answer.Answer.TheVariants as answer
use Rattle.acta_table.specs.declared.event.Event.{Event}
use Rattle.acta_table.specs.declared.model.Parts.{Parts}
use Rattle.acta_words.specs.Text.{lines_of}
use Rattle.acta_script.specs.declared.fault.LineFault.{LineFault}
use Rattle.acta_script.specs.Reading.{event_of}
use Rattle.acta_io.specs.Input.{parsed_by}
use Rattle.acta_machine.specs.Table.{run_answers}
use Rattle.acta_compare.specs.declared.seen.Seen.{Seen}
use Rattle.acta_compare.specs.declared.seen.Seen.TheVariants.{Unread, Admitted, Refused}

-- the part of an answer that is compared: neither the place, nor the number with the rule
abbrev pub seen_of : Answer → Seen
seen_of (answer.Admitted place ret) = Admitted ret
seen_of (answer.Refused rule by) = Refused rule

-- each line that has a word, parsed on a model: an event, or a fault
abbrev pub parsed_each : {A : Type 0} → Parts A → List (List ℕ) → List (Result (Event A) LineFault)
parsed_each m lines = filter_map (parsed_by (event_of m)) lines

-- the events, without the faults
abbrev pub events_among : {A : Type 0} → List (Result (Event A) LineFault) → List (Event A)
events_among [] = []
events_among (Ok event ∷ parsed) = event ∷ events_among parsed
events_among (Err fault ∷ parsed) = events_among parsed

-- the compared part for each line, by the answers to the events
abbrev pub seen_with : {A : Type 0} → List (Result (Event A) LineFault) → List Answer → List Seen
seen_with (Ok event ∷ parsed) (one ∷ answers) = seen_of one ∷ seen_with parsed answers
seen_with (Err fault ∷ parsed) answers = Unread fault ∷ seen_with parsed answers
seen_with _ _ = []

-- the events of the lines of an input that the model can read
abbrev pub events_in : {A : Type 0} → Parts A → List ℕ → List (Event A)
events_in m input = events_among (parsed_each m (lines_of input))

-- a model's answers to the lines of an input that have a word, in a run of the events of the lines that it can read
abbrev pub seen_in : {A : Type 0} → Parts A → List ℕ → List Seen
seen_in m input = seen_with (parsed_each m (lines_of input)) (run_answers m (events_in m input))
