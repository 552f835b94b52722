-- Where a text is wrong: its first fault, the place of the word at fault, what is expected there, and the earlier lines
-- involved.
use Rattle.std.specs.Prelude.{◌≡◌, ℕ, ◌+◌, true, is_some, ◌-◌, List, [], length, take, slice_get, if◌then◌else◌, Option, Some, None, option_and_then, option_map, unwrap_or}
use Rattle.std.specs.Result.{result_err}
use Rattle.acta_words.specs.Text.{lines_of, words_of}
use Rattle.acta_lang.specs.declared.diagnostic.ClassLines.{ClassLines}
use Rattle.acta_lang.specs.declared.diagnostic.Expected.{Expected}
use Rattle.acta_lang.specs.declared.diagnostic.ReadError.{ReadError}
use Rattle.acta_lang.specs.declared.diagnostic.ReadError.TheVariants as read
use Rattle.acta_lang.specs.declared.diagnostic.TextDiagnostic.{TextDiagnostic}
use Rattle.acta_lang.specs.declared.fault.AsmError.{AsmError}
use Rattle.acta_lang.specs.declared.fault.AsmError.TheVariants as error
use Rattle.acta_lang.specs.declared.fault.AsmFault.{AsmFault}
use Rattle.acta_lang.specs.declared.fault.Code.{Code}
use Rattle.acta_lang.specs.declared.diagnostic.Expected.TheVariants as want
use Rattle.acta_lang.specs.declared.fault.Code.TheVariants.{DuplicateName, WrongPlace, MissingEnd, HeirWithoutSpawn}
use Rattle.acta_lang.specs.declared.form.Form.{Form}
use Rattle.acta_lang.specs.Drafts.{declared}
use Rattle.acta_lang.specs.Faults.{is_class, is_object}
use Rattle.acta_lang.specs.Forms.{form_of, name_in}
use Rattle.acta_lang.specs.Lines.{ClassAt, begun, declares, first_line, last_class, part_line}
use Rattle.acta_lang.specs.Meaning.{meaning}
use Rattle.acta_lang.specs.Places.{place_of}

-- the content of a diagnostic, with names as bytes
pub record Diagnostic : Type 0 where
  pub line : ℕ
  pub code : Code
  pub place : Option ℕ
  pub expected : Expected
  pub earlier : Option ℕ
  pub class : Option ClassAt

abbrev pub class_reported : ClassLines → ClassAt
class_reported c = record { name = c.name.now; line = c.line; parts = c.parts }

abbrev pub reported : TextDiagnostic → Diagnostic
reported d = record {
  line = d.line;
  code = d.code;
  place = d.place;
  expected = d.expected;
  earlier = d.earlier;
  class = option_map class_reported d.class;
}

-- the line and code of a diagnostic
abbrev pub fault_of : Diagnostic → AsmFault
fault_of d = record { line = d.line; code = d.code }

-- the class that is open after these lines
abbrev pub open_class : Type 0 → List (List ℕ) → Option ClassAt
open_class A before = option_map (λ c. last_class c.name before) (declared {A = A} before).current

-- the earlier line that the fault involves: the first that declares the name, or the one that has the part
abbrev pub earlier_line : Type 0 → List (List ℕ) → List (List ℕ) → Form → Code → Option ℕ
earlier_line A before words parsed DuplicateName =
    first_line (declares (if is_class parsed then is_class else is_object) (name_in words)) before
earlier_line A before words parsed WrongPlace = option_and_then (λ c. part_line parsed c.parts) (open_class A before)
earlier_line A before words parsed _ = None

-- the class that is open before the line; for a missing end, the class that is open after it
abbrev pub class_of : Type 0 → List (List ℕ) → List (List ℕ) → Form → Code → Option ClassAt
class_of A before words parsed MissingEnd =
    if is_class parsed then Some (begun (name_in words) (length before + 1)) else open_class A before
class_of A before words parsed _ = open_class A before

-- the diagnostic of a line with this code, after these lines
abbrev pub diagnostic_of : Type 0 → List (List ℕ) → List ℕ → Code → Diagnostic
diagnostic_of A before line code =
    let words = words_of line in
    let parsed = form_of words in
    let at = place_of (declared {A = A} before) line words parsed code in
    record {
      line = length before + 1;
      code = code;
      place = at.0;
      expected = at.1;
      earlier = earlier_line A before words parsed code;
      class = class_of A before words parsed code;
    }

-- the diagnostic has the lines that its code needs: a duplicate name the earlier line; a repeated part its line and the
-- class; `MissingEnd` and `HeirWithoutSpawn` the class
pub record IsWhole (d : Diagnostic) : Type 0 where
  pub named : d.code ≡ DuplicateName → is_some d.earlier ≡ true
  pub again : d.code ≡ WrongPlace → d.expected ≡ want.Once → (is_some d.earlier ≡ true) × (is_some d.class ≡ true)
  pub unended : d.code ≡ MissingEnd → is_some d.class ≡ true
  pub orphaned : d.code ≡ HeirWithoutSpawn → is_some d.class ≡ true

-- the lines of the text before the line of this number, and that line
abbrev pub lines_before : List ℕ → ℕ → List (List ℕ)
lines_before text number = take (number - 1) (lines_of text)

abbrev pub line_at : List ℕ → ℕ → List ℕ
line_at text number = unwrap_or (slice_get (lines_of text) (number - 1)) []

-- the diagnostic of a fault of the text
abbrev pub diagnostic_in : Type 0 → List ℕ → AsmFault → Diagnostic
diagnostic_in A text fault = diagnostic_of A (lines_before text fault.line) (line_at text fault.line) fault.code

-- the diagnostic of a text: `None` if it has no fault
abbrev pub diagnosed : Type 0 → List ℕ → Option Diagnostic
diagnosed A text = option_map (diagnostic_in A text) (result_err (meaning {A = A} text))

-- the error of a text, without the diagnostic
abbrev pub asm_error_of : ReadError → AsmError
asm_error_of read.Memory = error.Memory
asm_error_of (read.Fault d) = error.Fault (fault_of (reported d))
