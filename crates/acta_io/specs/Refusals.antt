-- Whether the lines of an input, or the model, are refused.
use Rattle.std.specs.Prelude.{◌≡◌, ⊤, ℕ, Bool, true, false, ◌||◌, List, length, nat_lt, is_some, Result, Ok, Err}
use Rattle.acta_table.specs.declared.event.Kept.{Kept}
use Rattle.acta_table.specs.declared.limits.TheConstants.{MOST_EVENTS}
use Rattle.acta_table.specs.declared.model.Parts.{Parts}
use Rattle.acta_script.specs.Reading.{event_of, kept_of, seated_of}
use Rattle.acta_io.specs.declared.input.LineKind.{LineKind}
use Rattle.acta_io.specs.declared.input.LineKind.TheVariants as lines
use Rattle.acta_io.specs.declared.input.TheConstants.{MOST_SEATS}
use Rattle.acta_io.specs.declared.models.NoModel.{NoModel}
use Rattle.acta_io.specs.declared.outcome.Outcome.{Outcome}
use Rattle.acta_io.specs.declared.outcome.Outcome.TheVariants.{Done, Refused, Unread, Unwritten}
use Rattle.acta_io.specs.Input.{Parsed, parsed_in}
use Rattle.acta_io.specs.Sections.{script_commands, script_events}

-- event lines are refused if the model or a line is faulty
abbrev pub refuses_events : {A : Type 0} → Result (Parts A) NoModel → List ℕ → Bool
refuses_events (Err fault) input = true
refuses_events (Ok m) input = is_some (parsed_in (event_of m) input).stop

-- kept lines are refused if a line is faulty, or if there are more than can be judged
abbrev pub refuses_kept_on : {A : Type 0} → Parsed (Kept A) → Bool
refuses_kept_on s = is_some s.stop || nat_lt MOST_EVENTS (length s.parsed)

-- the same, and also if the model is faulty
abbrev pub refuses_kept : {A : Type 0} → Result (Parts A) NoModel → List ℕ → Bool
refuses_kept (Err fault) input = true
refuses_kept (Ok m) input = refuses_kept_on (parsed_in (kept_of m) input)

-- seated lines, with the most seats allowed, are refused if the model or a line is faulty
abbrev pub refuses_seated : {A : Type 0} → Result (Parts A) NoModel → List ℕ → Bool
refuses_seated (Err fault) input = true
refuses_seated (Ok m) input = is_some (parsed_in (seated_of m MOST_SEATS) input).stop

-- a debug script is refused if a line of its events or a command is faulty
abbrev pub refuses_script_on : {A : Type 0} → Parts A → List ℕ → Bool
refuses_script_on m input = is_some (script_events m input).stop || is_some (script_commands m input).stop

-- the same, and also if the model is faulty
abbrev pub refuses_script : {A : Type 0} → Result (Parts A) NoModel → List ℕ → Bool
refuses_script (Err fault) input = true
refuses_script (Ok m) input = refuses_script_on m input

-- whether an input with lines of this kind is refused
abbrev pub refuses : {A : Type 0} → LineKind → Result (Parts A) NoModel → List ℕ → Bool
refuses lines.Events found input = refuses_events found input
refuses lines.Kept found input = refuses_kept found input
refuses lines.Seated found input = refuses_seated found input
refuses lines.Script found input = refuses_script found input

-- if the input was answered, the outcome tells whether it was refused
abbrev pub EndsAs : Outcome → Bool → Type 0
EndsAs Done is_refused = is_refused ≡ false
EndsAs Refused is_refused = is_refused ≡ true
EndsAs (Unread reason) is_refused = ⊤
EndsAs Unwritten is_refused = ⊤
