-- After all words have been examined, none is left that has a fault.
use Rattle.std.proofs.Common.{◌≡◌, ◌≤◌, ℕ, zero, suc, min, List, [], ◌∷◌, map, drop, length, None, refl, arith}
use Rattle.acta_table.specs.declared.model.Parts.{Parts}
use Rattle.acta_script.specs.declared.diagnosis.LinePart.{LinePart}
use Rattle.acta_script.specs.declared.fault.LineFault.{LineFault}
use Rattle.acta_script.specs.Diagnosis.{wrong_word}

module _ {A X : Type 0} (m : Parts A) (fault : LineFault) (n : ℕ) (f : X → List ℕ) where
  no_words : (parts : List LinePart) → wrong_word m fault n parts [] ≡ None
  no_words [] = refl
  no_words (part ∷ parts) = refl

  pub none_left : (parts : List LinePart) (xs : List X) (i : ℕ) → min (length parts) (length xs) ≤ i → wrong_word m fault n (drop i parts) (map f (drop i xs)) ≡ None
  none_left [] xs zero all = refl
  none_left [] xs (suc i) all = refl
  none_left (part ∷ parts) [] zero all = refl
  none_left (part ∷ parts) [] (suc i) all = no_words (drop i parts)
  none_left (part ∷ parts) (x ∷ xs) zero all = absurd (omega arith)
  none_left (part ∷ parts) (x ∷ xs) (suc i) all = none_left parts xs i (omega arith)
