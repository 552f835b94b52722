-- A line of a split whose second number is faulty.
use Rattle.std.proofs.Common.{◌≡◌, ◌≤◌, ◌<◌, ℕ, List, [], ◌∷◌, map, length, get_or, Ok, Err, sym, arith}
use Rattle.acta_table.specs.declared.event.Event.TheVariants.{Split}
use Rattle.acta_table.specs.declared.event.TxnId.{TxnId}
use Rattle.acta_table.specs.declared.model.Parts.{Parts}
use Rattle.acta_script.specs.declared.fault.LineFault.{LineFault}
use Rattle.acta_script.specs.Reading.{◌>>=◌, parse_txn, parse_class, parse_operations, parse_split}

pub parse_split-second : {A X : Type 0} (m : Parts A) (f : X → List ℕ) (xs : List X) (d : X) (t : TxnId) (fault : LineFault) → 4 ≤ length xs → length xs < 5 → Ok t ≡ parse_txn (f (get_or xs 0 d)) → Err fault ≡ parse_txn (f (get_or xs 1 d)) → parse_split m (map f xs) ≡ Err fault
unfolding parse_split
parse_split-second m f [] d t fault low high first second = absurd (omega arith)
parse_split-second m f (a ∷ []) d t fault low high first second = absurd (omega arith)
parse_split-second m f (a ∷ b ∷ []) d t fault low high first second = absurd (omega arith)
parse_split-second m f (a ∷ b ∷ c ∷ []) d t fault low high first second = absurd (omega arith)
parse_split-second m f (a ∷ b ∷ c ∷ e ∷ []) d t fault low high first second =
    λ i. (sym first i) >>= (λ t. (sym second i) >>= (λ u. parse_operations (f e) >>= (λ ops. parse_class m (f c) >>= (λ class. Ok (Split t u class ops)))))
parse_split-second m f (a ∷ b ∷ c ∷ e ∷ g ∷ xs) d t fault low high first second = absurd (omega arith)
