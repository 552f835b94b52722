-- The parsed lines of an input.
use Rattle.std.specs.Prelude.{ℕ, ◌+◌, not, ◌==◌, List, [], ◌∷◌, length, if◌then◌else◌, Option, Some, None, Result, Ok, Err}
use Rattle.acta_table.specs.Numbered.{numbers_where}
use Rattle.acta_words.specs.Text.{lines_of, words_of}
use Rattle.acta_script.specs.declared.fault.LineFault.{LineFault}
use Rattle.acta_io.specs.declared.input.BadLine.{BadLine}
use Rattle.acta_io.specs.declared.input.NonBlankLine.{NonBlankLine}

-- the parsed lines, up to the first faulty line, and that line
pub record Parsed (X : Type 0) : Type 0 where
  pub parsed : List X
  pub stop : Option BadLine

-- the result of parsing a line; `None` if it has no word
abbrev pub parsed_by : {X : Type 0} → (List ℕ → Result X LineFault) → List ℕ → Option (Result X LineFault)
parsed_by read line = if length (words_of line) == 0 then None else Some (read line)

-- the result of this line put before that of the lines after it; a faulty line discards those
abbrev pub with_line : {X : Type 0} → ℕ → Option (Result X LineFault) → Parsed X → Parsed X
with_line n None rest = rest
with_line n (Some (Ok x)) rest = record rest { parsed = x ∷ rest.parsed }
with_line n (Some (Err fault)) rest = record { parsed = []; stop = Some (record { line = n; fault = fault }) }

-- the parsed lines, numbered from n on
abbrev pub parsed_from : {X : Type 0} → (List ℕ → Result X LineFault) → ℕ → List (List ℕ) → Parsed X
parsed_from read n [] = record { parsed = []; stop = None }
parsed_from read n (line ∷ lines) = with_line n (parsed_by read line) (parsed_from read (n + 1) lines)

-- the parsed lines of an input
unfoldable pub parsed_in : {X : Type 0} → (List ℕ → Result X LineFault) → List ℕ → Parsed X
parsed_in read input = parsed_from read 1 (lines_of input)

-- a line with its number
pub record NumberedLine : Type 0 where
  pub number : ℕ
  pub bytes : List ℕ

abbrev pub numbered : NonBlankLine → NumberedLine
numbered line = record { number = line.line; bytes = line.bytes.now }

-- the lines that have a word; the first line has the number n
abbrev pub non_blank_from : ℕ → List (List ℕ) → List NumberedLine
non_blank_from n [] = []
non_blank_from n (line ∷ lines) =
    if length (words_of line) == 0 then non_blank_from (n + 1) lines
    else record { number = n; bytes = line } ∷ non_blank_from (n + 1) lines

-- the lines of an input that have a word, numbered from 1
unfoldable pub non_blank_lines : List ℕ → List NumberedLine
non_blank_lines input = non_blank_from 1 (lines_of input)

-- the numbers, from 1, of the lines that have a word
unfoldable pub line_numbers : List ℕ → List ℕ
line_numbers input = numbers_where (λ line. not (length (words_of line) == 0)) (lines_of input)
