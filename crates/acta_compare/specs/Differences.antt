-- The lines at which two models answer differently.
use Rattle.std.specs.Prelude.{◌≢◌, ℕ, List, [], ◌∷◌}
use Rattle.acta_table.specs.declared.model.Parts.{Parts}
use Rattle.acta_io.specs.Input.{line_numbers}
use Rattle.acta_compare.specs.declared.differences.Difference.{Difference}
use Rattle.acta_compare.specs.declared.seen.Seen.{Seen}
use Rattle.acta_compare.specs.Seen.{seen_in}

-- each line with both answers, by the numbers of the lines
abbrev pub compared : List ℕ → List Seen → List Seen → List Difference
compared (n ∷ numbers) (a ∷ one) (b ∷ other) = (record { line = n; one = a; other = b }) ∷ compared numbers one other
compared _ _ _ = []

-- each line of an input that has a word, with both answers
abbrev pub compared_lines : {A : Type 0} → Parts A → Parts A → List ℕ → List Difference
compared_lines m other input = compared (line_numbers input) (seen_in m input) (seen_in other input)

-- the two answers are not the same
abbrev pub Differs : Difference → Type 0
Differs d = d.one ≢ d.other
