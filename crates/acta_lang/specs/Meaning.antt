-- The model that a text declares, or its fault.
use Rattle.std.specs.Prelude.{◌≡◌, ℕ, ◌+◌, ◌==◌, List, [], ◌∷◌, ◌++◌, length, Option, Some, None, Result, Ok, Err, ⊤}
use Rattle.acta_table.specs.declared.model.Parts.{Parts}
use Rattle.acta_words.specs.Text.{lines_of}
use Rattle.acta_lang.specs.declared.fault.AsmError.{AsmError}
use Rattle.acta_lang.specs.declared.fault.AsmError.TheVariants as error
use Rattle.acta_lang.specs.declared.fault.AsmFault.{AsmFault}
use Rattle.acta_lang.specs.declared.fault.Code.{Code}
use Rattle.acta_lang.specs.declared.fault.Code.TheVariants.{NotAscii, BadWord, BadName, DuplicateName, WrongPlace, BadNumber, TooMany, MissingEnd, MissingPart, BeginKindAtStart, HeirWithoutSpawn, BadPolicyKind}
use Rattle.acta_lang.specs.Drafts.{declared, parts_of}
use Rattle.acta_lang.specs.Faults.{code_at}

abbrev pub code_number : Code → ℕ
code_number NotAscii = 1
code_number BadWord = 2
code_number BadName = 3
code_number DuplicateName = 4
code_number WrongPlace = 5
code_number BadNumber = 6
code_number TooMany = 7
code_number MissingEnd = 8
code_number MissingPart = 9
code_number BeginKindAtStart = 10
code_number HeirWithoutSpawn = 11
code_number BadPolicyKind = 12

-- the fault with the line's number and code, if it has a code, otherwise the result of the rest
abbrev pub judged : {X : Type 0} → ℕ → Option Code → Result X AsmFault → Result X AsmFault
judged n None rest = rest
judged n (Some code) rest = Err (record { line = n; code = code })

-- the first fault of the remaining lines, after the lines before them, or what all of them declare
unfoldable pub meaning_after : {A : Type 0} → List (List ℕ) → List (List ℕ) → Result (Parts A) AsmFault
meaning_after before [] = Ok (parts_of (declared before))
meaning_after {A = A} before (line ∷ lines) =
    judged (length before + 1) (code_at {A = A} (declared before) (length lines == 0) line)
    (meaning_after (before ++ line ∷ []) lines)

-- the model that the text declares, or the lowest code of its first faulty line
abbrev pub meaning : {A : Type 0} → List ℕ → Result (Parts A) AsmFault
meaning text = meaning_after [] (lines_of text)

-- the error is the text's fault, or lack of memory, whatever the text
abbrev pub IsWhy : {A : Type 0} → Result (Parts A) AsmFault → AsmError → Type 0
IsWhy meant error.Memory = ⊤
IsWhy meant (error.Fault f) = meant ≡ Err f
