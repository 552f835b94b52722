-- The output of `explore` for programs.
use Rattle.std.specs.Prelude.{◌≡◌, ◌⊎◌, ◌++◌, ⊤, ℕ, Bool, true, false, List, [], ◌∷◌, map, filter, length, codes, decimal, Option, Some, None, Result, Ok, Err}
use Rattle.std.specs.Io.{StartsWith}
use Rattle.std.specs.List.{range_with_len}
use Rattle.acta_table.specs.declared.event.Kept.{Kept}
use Rattle.acta_table.specs.declared.model.Parts.{Parts}
use Rattle.acta_table.specs.Numbered.{item_at}
use Rattle.acta_words.specs.Text.{line_of, text_of}
use Rattle.acta_script.specs.declared.programs.ProgramLine.{ProgramLine}
use Rattle.acta_script.specs.Reading.{program_line_of}
use Rattle.acta_script.specs.Writing.{event_line}
use Rattle.acta_io.specs.declared.input.BadLine.{BadLine}
use Rattle.acta_io.specs.declared.models.NoModel.{NoModel}
use Rattle.acta_io.specs.Models.{of_either}
use Rattle.acta_io.specs.Reports.{Output, refused_by, refused_model, stop_line}
use Rattle.acta_io.specs.Input.{Parsed, line_numbers, parsed_in}
use Rattle.acta_explore.specs.Ends.{AreAllEnds, IsTooMany}
use Rattle.acta_explore.specs.Outcomes.{outcome}
use Rattle.acta_explore.specs.Points.{Point, start}
use Rattle.acta_explore.specs.Programs.{Programs}
use Rattle.acta_ends.specs.declared.condition.Condition.{Condition}
use Rattle.acta_ends.specs.Conditions.{holds_at}
use Rattle.acta_ends.specs.EndLines.{explored_lines}
use Rattle.acta_programs.specs.declared.args.Form.{Form}
use Rattle.acta_programs.specs.declared.args.Form.TheVariants.{Words, Lines, Events}
use Rattle.acta_programs.specs.From.{ends_line}

-- incomplete POINTS ENDS: the numbers found before the search was given up
abbrev pub incomplete_line : ℕ → ℕ → List ℕ
incomplete_line points ends = line_of (codes "incomplete" ∷ decimal points ∷ decimal ends ∷ [])

-- the same in words: more than so many points
abbrev pub incomplete_words : ℕ → ℕ → ℕ → List ℕ
incomplete_words most points ends =
    codes "incomplete: more than " ++ (decimal most ++ (codes " points (--most): " ++ (decimal points ++ (codes " points and " ++ (decimal ends ++ codes " ends were found. There may be other ends.\n")))))

-- the output after so many points and ends were found: words for a reader, otherwise this line
abbrev pub TellsIncomplete : Form → ℕ → ℕ → ℕ → Output → Type 0
TellsIncomplete Words most points ends out = out ≡ record { is_refused = true; text = incomplete_words most points ends }
TellsIncomplete Lines most points ends out = out ≡ refused_by (incomplete_line points ends)
TellsIncomplete (Events number) most points ends out = out ≡ refused_by (incomplete_line points ends)

-- the search was given up: it found so many points, more than allowed, and so many ends
abbrev pub IsIncomplete : {A : Type 0} → Form → ℕ → Parts A → Programs A → Output → Type 0
IsIncomplete form most m programs out =
    (points : ℕ) × (ends : ℕ) × IsTooMany programs (start m) most points ends × TellsIncomplete form most points ends out

-- the line of a kept event, without its return
abbrev pub kept_event_line : {A : Type 0} → Parts A → Kept A → List ℕ
kept_event_line m kept = event_line m kept.event

-- the events of an order, one per line
abbrev pub order_events : {A : Type 0} → Point A → List (List ℕ)
order_events p = map (kept_event_line p.state.model) p.state.kept

-- no end K of N
abbrev pub no_end_line : ℕ → ℕ → List ℕ
no_end_line number count =
    line_of (codes "no" ∷ codes "end" ∷ decimal number ∷ codes "of" ∷ decimal count ∷ [])

-- the events of the first order of the end with this number, or that there are only so many ends
abbrev pub end_events : {A : Type 0} → ℕ → ℕ → Option (Point A) → Output
end_events number count (Some p) = record { is_refused = false; text = text_of (order_events p) }
end_events number count None = refused_by (no_end_line number count)

-- how many of the ends there are for which the condition holds
abbrev pub kept_count : {A : Type 0} → Programs A → Condition A → List (Point A) → ℕ
kept_count programs c ends =
    length (filter (holds_at c (map (outcome programs) ends)) (range_with_len 0 (length ends)))

-- the output in words on so many ends, with which it begins
abbrev pub IsInWords : ℕ → Output → Type 0
IsInWords count out = StartsWith out.text (ends_line count) × (out.is_refused ≡ false)

-- the output for the ends: words for a reader, or lines of those for which the condition holds, or the events of the end
-- with this number
abbrev pub IsOfEnds : {A : Type 0} → Form → Parts A → Programs A → List ℕ → Condition A → List (Point A) → Output → Type 0
IsOfEnds Words m programs numbers c ends out = IsInWords (kept_count programs c ends) out
IsOfEnds Lines m programs numbers c ends out =
    out ≡ record { is_refused = false; text = text_of (explored_lines m programs numbers c ends) }
IsOfEnds (Events number) m programs numbers c ends out =
    out ≡ end_events number (length ends) (item_at ends number)

-- the output for all ends
abbrev pub IsComplete : {A : Type 0} → Form → Parts A → Programs A → List ℕ → Condition A → Output → Type 0
IsComplete {A = A} form m programs numbers c out =
    (ends : List (Point A)) × AreAllEnds programs m ends × IsOfEnds form m programs numbers c ends out

-- the output for programs: for all ends, unless the search was given up
abbrev pub IsSearched : {A : Type 0} → Form → ℕ → Parts A → Programs A → List ℕ → Condition A → Output → Type 0
IsSearched form most m programs numbers c out = IsComplete form m programs numbers c out ⊎ IsIncomplete form most m programs out

-- the possible conditions, by whether one is given: without one there is no test, so that it holds for each end
abbrev pub MayMean : {A : Type 0} → Bool → Condition A → Type 0
MayMean false c = c.terms.items ≡ []
MayMean true c = ⊤

-- only a condition that is given can be faulty; the input is then refused
abbrev pub IsFaultyCondition : Bool → Output → Type 0
IsFaultyCondition false out = ⊥
IsFaultyCondition true out = out.is_refused ≡ true

-- the output for programs, with a condition or without one
abbrev pub IsOfPrograms : {A : Type 0} → Form → Bool → ℕ → Parts A → Programs A → List ℕ → Output → Type 0
IsOfPrograms {A = A} form given most m programs numbers out =
    ((c : Condition A) × MayMean given c × IsSearched form most m programs numbers c out) ⊎ IsFaultyCondition given out

-- the same, unless a line is faulty
abbrev pub IsAnswerUnless : {A : Type 0} → Option BadLine → Form → Bool → ℕ → Parts A → Programs A → List ℕ → Output → Type 0
IsAnswerUnless (Some b) form given most m programs numbers out = out ≡ refused_by (stop_line b)
IsAnswerUnless None form given most m programs numbers out = IsOfPrograms form given most m programs numbers out

-- the output on a model for the parsed lines of an input
abbrev pub IsAnswerTo : {A : Type 0} → Form → Bool → ℕ → Parts A → Parsed (ProgramLine A) → List ℕ → Output → Type 0
IsAnswerTo form given most m s numbers out = IsAnswerUnless s.stop form given most m s.parsed numbers out

-- the output on a model for an input, whose seats are numbered from 1 to 16
abbrev pub IsAnswerOn : {A : Type 0} → Form → Bool → ℕ → Parts A → List ℕ → Output → Type 0
IsAnswerOn form given most m input out =
    IsAnswerTo form given most m (parsed_in (program_line_of m 16) input) (line_numbers input) out

-- the output by the model in the bytes
abbrev pub IsAnswerBy : {A : Type 0} → Form → Bool → ℕ → Result (Parts A) NoModel → List ℕ → Output → Type 0
IsAnswerBy form given most (Err fault) input out = out ≡ refused_model fault
IsAnswerBy form given most (Ok m) input out = IsAnswerOn form given most m input out

-- the output for the bytes of a model and of an input; A is the allocator's type, which makes no difference
abbrev pub IsAnswer : (A : Type 0) → Form → Bool → ℕ → List ℕ → List ℕ → Output → Type 0
IsAnswer A form given most model input out = IsAnswerBy {A = A} form given most (of_either model) input out
