-- The output of `compare` for two models.
use Rattle.std.specs.Prelude.{◌≡◌, ◌⊎◌, ◌++◌, ◌==◌, ◌&&◌, ℕ, true, false, List, [], ◌∷◌, map, length, codes, decimal, nat_lt, if◌then◌else◌, Option, None, Result, Ok, Err}
use Rattle.std.specs.Io.{StartsWith}
use Rattle.acta_table.specs.declared.model.Parts.{Parts}
use Rattle.acta_script.specs.declared.programs.ProgramLine.{ProgramLine}
use Rattle.acta_script.specs.Reading.{program_line_of}
use Rattle.acta_explore.specs.Ends.{AreAllEnds, IsTooMany}
use Rattle.acta_explore.specs.Outcomes.{Outcome, outcome}
use Rattle.acta_explore.specs.Points.{Point, start}
use Rattle.acta_explore.specs.Programs.{Programs}
use Rattle.acta_programs.specs.From.{ends_line}
use Rattle.acta_io.specs.declared.input.BadLine.{BadLine}
use Rattle.acta_io.specs.declared.models.NoModel.{NoModel}
use Rattle.acta_io.specs.Models.{of_either}
use Rattle.acta_io.specs.Reports.{Output, refused_model}
use Rattle.acta_io.specs.Input.{Parsed, line_numbers, parsed_in}
use Rattle.acta_compare.specs.declared.args.Compared.{Compared}
use Rattle.acta_compare.specs.declared.args.Compared.TheVariants.{Answers, Ends}
use Rattle.acta_compare.specs.declared.differences.Difference.{Difference}
use Rattle.acta_compare.specs.Differences.{Differs, compared_lines}
use Rattle.acta_compare.specs.OnlyIn.{AreOnlyIn}
use Rattle.acta_compare.specs.Selected.{Selects}

-- the longer of the bytes of two models
abbrev pub longer : List ℕ → List ℕ → List ℕ
longer model other = if nat_lt (length model) (length other) then other else model

-- the words that no answer to so many lines differs
abbrev pub same_words : ℕ → List ℕ
same_words n =
    if n == 0
    then codes "the input has no lines"
    else (if n == 1 then codes "the answers to the line are the same" else codes "the answers to all " ++ (decimal n ++ codes " lines are the same"))

-- the text on so many event lines, by those at which the answers differ: it begins with the first of these, or says that no
-- answer differs, or that neither model can read a line
abbrev pub IsOfDifferences : ℕ → List Difference → List ℕ → Type 0
IsOfDifferences n [] text = StartsWith text (same_words n) ⊎ StartsWith text (codes "neither model can read line ")
IsOfDifferences n (d ∷ ds) text = StartsWith text (codes "the answers differ first at line " ++ decimal d.line)

-- the output on event lines
abbrev pub IsOfAnswers : {A : Type 0} → Parts A → Parts A → List ℕ → Output → Type 0
IsOfAnswers m other input out =
    (found : List Difference) × Selects Differs (compared_lines m other input) found × IsOfDifferences (length (line_numbers input)) found out.text × (out.is_refused ≡ false)

-- the first words on the ends of programs, by how many there are on the first model, only on the first, and only on the
-- second: the ends are the same, or so many are only on the first
abbrev pub first_words : ℕ → ℕ → ℕ → List ℕ
first_words count ours theirs =
    if (ours == 0) && (theirs == 0)
    then ends_line count ++ codes ", the same under both models"
    else ends_line ours ++ codes " only under "

-- the output for the outcomes of all ends on two models: its words begin with which of them are on only one
abbrev pub IsOfOutcomes : {A : Type 0} → List (Outcome A) → List (Outcome A) → Output → Type 0
IsOfOutcomes ones others out =
    (ours : List ℕ) × (theirs : List ℕ) × AreOnlyIn ones others ours × AreOnlyIn others ones theirs × StartsWith out.text (first_words (length ones) (length ours) (length theirs)) × (out.is_refused ≡ false)

-- the output if all ends on both models were found
abbrev pub IsComplete : {A : Type 0} → Parts A → Programs A → Parts A → Programs A → Output → Type 0
IsComplete {A = A} m programs other others out =
    (ends : List (Point A)) × (further : List (Point A)) × AreAllEnds programs m ends × AreAllEnds others other further × IsOfOutcomes (map (outcome programs) ends) (map (outcome others) further) out

-- the search on a model was right to give up: more points than allowed can be reached
abbrev pub IsGivenUp : {A : Type 0} → ℕ → Parts A → Programs A → Type 0
IsGivenUp most m programs = (points : ℕ) × (ends : ℕ) × IsTooMany programs (start m) most points ends

-- the output if the search on one of the models was given up
abbrev pub IsIncomplete : {A : Type 0} → ℕ → Parts A → Programs A → Parts A → Programs A → Output → Type 0
IsIncomplete most m programs other others out =
    (IsGivenUp most m programs ⊎ IsGivenUp most other others) × (out.is_refused ≡ true)

-- the output for programs, as each of the models reads them
abbrev pub IsOfPrograms : {A : Type 0} → ℕ → Parts A → Programs A → Parts A → Programs A → Output → Type 0
IsOfPrograms most m programs other others out =
    IsComplete m programs other others out ⊎ IsIncomplete most m programs other others out

-- the same, unless a model can't read a line
abbrev pub IsAnswerUnless : {A : Type 0} → ℕ → Parts A → Parts A → Option BadLine → Option BadLine → Programs A → Programs A → Output → Type 0
IsAnswerUnless most m other None None programs others out = IsOfPrograms most m programs other others out
IsAnswerUnless most m other _ _ programs others out = out.is_refused ≡ true

-- the output on two models for the parsed lines of programs
abbrev pub IsAnswerTo : {A : Type 0} → ℕ → Parts A → Parts A → Parsed (ProgramLine A) → Parsed (ProgramLine A) → Output → Type 0
IsAnswerTo most m other one two out = IsAnswerUnless most m other one.stop two.stop one.parsed two.parsed out

-- the output on two models for an input: event lines are never refused; the seats of programs are numbered from 1 to 16
abbrev pub IsAnswerOn : {A : Type 0} → Compared → Parts A → Parts A → List ℕ → Output → Type 0
IsAnswerOn Answers m other input out = IsOfAnswers m other input out
IsAnswerOn (Ends most) m other input out =
    IsAnswerTo most m other (parsed_in (program_line_of m 16) input) (parsed_in (program_line_of other 16) input) out

-- the output on a model, by the second model in its bytes
abbrev pub IsAnswerWith : {A : Type 0} → Compared → Parts A → Result (Parts A) NoModel → List ℕ → Output → Type 0
IsAnswerWith what m (Err fault) input out = out.is_refused ≡ true
IsAnswerWith what m (Ok other) input out = IsAnswerOn what m other input out

-- the output by the models in the bytes
abbrev pub IsAnswerBy : {A : Type 0} → Compared → Result (Parts A) NoModel → Result (Parts A) NoModel → List ℕ → Output → Type 0
IsAnswerBy what (Err fault) other input out = out ≡ refused_model fault
IsAnswerBy what (Ok m) other input out = IsAnswerWith what m other input out

-- the output for the bytes of two models and of an input; A is the allocator's type, which makes no difference
abbrev pub IsAnswer : (A : Type 0) → Compared → List ℕ → List ℕ → List ℕ → Output → Type 0
IsAnswer A what model other input out =
    IsAnswerBy {A = A} what (of_either model) (of_either other) input out
