-- The words on the first line at which the answers differ.
use Rattle.std.proofs.Common.{◌≡◌, ℕ, ◌++◌, List, [], ◌∷◌, Option, Some, None, ap, subst, sym}
use Rattle.std.specs.Prelude.{codes, decimal, slice_get, unwrap_or}
use Rattle.std.specs.Io.{StartsWith}
use Rattle.acta_compare.specs.declared.differences.Difference.{Difference}
use Rattle.acta_compare.specs.Answers.{IsOfDifferences}

-- the words of a line at which the answers differ
abbrev pub IsAtLine : List ℕ → Difference → Type 0
IsAtLine text d = StartsWith text (codes "the answers differ first at line " ++ decimal d.line)

pub differ-first : (n : ℕ) (ds : List Difference) (d : Difference) (text : List ℕ) → slice_get ds 0 ≡ Some d → IsAtLine text d → IsOfDifferences n ds text
differ-first n [] d text is starts = cc
differ-first n (x ∷ xs) d text is starts = subst (IsAtLine text) (sym (ap (λ o. unwrap_or o x) is)) starts
