-- A line of an operation that has too few words.
use Rattle.std.proofs.Common.{◌≡◌, ◌<◌, ℕ, List, [], ◌∷◌, map, length, Err, refl, arith}
use Rattle.acta_table.specs.declared.model.Parts.{Parts}
use Rattle.acta_script.specs.declared.fault.LineFault.TheVariants.{Arity}
use Rattle.acta_script.specs.Reading.{parse_do}

pub parse_do-short : {A X : Type 0} (m : Parts A) (f : X → List ℕ) (xs : List X) → length xs < 3 → Err Arity ≡ parse_do m (map f xs)
unfolding parse_do
parse_do-short m f [] short = refl
parse_do-short m f (t ∷ []) short = refl
parse_do-short m f (t ∷ object ∷ []) short = refl
parse_do-short m f (t ∷ object ∷ op ∷ xs) short = absurd (omega arith)
