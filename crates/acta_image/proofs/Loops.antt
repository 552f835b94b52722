-- Reading one after the other, as a loop does.
use Rattle.std.proofs.Common.{◌≡◌, ℕ, suc, ◌-◌, ◌+◌, ◌≤◌, ◌<◌, List, [], ◌∷◌, ◌++◌, Result, Ok, Err, refl, sym, ap, ◌∙◌, append_assoc, append-nil, arith}
use Rattle.acta_table.specs.declared.start_edges.StartEdge.{StartEdge}
use Rattle.acta_image.specs.declared.diagnostic.Field.{Field}
use Rattle.acta_image.specs.declared.diagnostic.ImageDiagnostic.{ImageDiagnostic}
use Rattle.acta_image.specs.declared.diagnostic.ReadError.{ReadError}
use Rattle.acta_image.specs.declared.diagnostic.ReadError.TheVariants as errors
use Rattle.acta_image.specs.inside.Gives.{IsWhyRead}
use Rattle.acta_image.specs.Reading.{Reader, and_then, field, row_in, rank, read_items, read_rows}

-- the items read before, and those still read
abbrev pub on_front : {X : Type 0} → List X → Result (List X × List ℕ) ImageDiagnostic → Result (List X × List ℕ) ImageDiagnostic
on_front front read = and_then read (λ x. Ok (front ++ x.0, x.1))

regroup : {X : Type 0} (front : List X) (x : X) (read : Result (List X × List ℕ) ImageDiagnostic) → on_front front (and_then read (λ y. Ok (x ∷ y.0, y.1))) ≡ on_front (front ++ x ∷ []) read
regroup front x (Ok y) = ap (λ (xs : List _). Ok (xs, y.1)) (sym (append_assoc front (x ∷ []) y.0))
regroup front x (Err fault) = refl

-- items
module _ {X : Type 0} (read : Reader X) (front : List X) (count i : ℕ) (bytes : List ℕ) (total : Result (List X × List ℕ) ImageDiagnostic)
    (so_far : on_front front (read_items read (count - i) bytes) ≡ total) where
  pub items-on : (x : X) (after : List ℕ) → i < count → read bytes ≡ Ok (x, after) → on_front (front ++ x ∷ []) (read_items read (count - (i + 1)) after) ≡ total
  items-on x after lt one =
      let k : count - i ≡ suc (count - (i + 1)) = omega arith in
      let same : on_front front (read_items read (count - i) bytes) ≡ on_front (front ++ x ∷ []) (read_items read (count - (i + 1)) after) = rw (k, one) (regroup front x (read_items read (count - (i + 1)) after)) in
      sym same ∙ so_far

  pub items-end : (e : ReadError) → i < count → IsWhyRead (read bytes) e → IsWhyRead total e
  items-end errors.Memory lt one = tt
  items-end (errors.Fault fault) lt one =
      let k : count - i ≡ suc (count - (i + 1)) = omega arith in
      let same : on_front front (read_items read (count - i) bytes) ≡ Err fault = rw (k, one) refl in
      sym so_far ∙ same

  pub items-done : count ≤ i → total ≡ Ok (front, bytes)
  items-done le =
      let k : count - i ≡ 0 = omega arith in
      let same : on_front front (read_items read (count - i) bytes) ≡ Ok (front, bytes) = rw k (ap (λ (xs : List X). Ok (xs, bytes)) (append-nil front)) in
      sym so_far ∙ same

-- rows
module _ (row : Field) (size least : ℕ) (front : List StartEdge) (count i : ℕ) (bytes : List ℕ) (total : Result (List StartEdge × List ℕ) ImageDiagnostic)
    (so_far : on_front front (read_rows row size least (count - i) bytes) ≡ total) where
  pub rows-on : (e : StartEdge) (after : List ℕ) (next : ℕ) → i < count → field row size 2 (row_in least) bytes ≡ Ok (e, after) → next ≡ rank e + 1 → on_front (front ++ e ∷ []) (read_rows row size next (count - (i + 1)) after) ≡ total
  rows-on e after next lt one is =
      let k : count - i ≡ suc (count - (i + 1)) = omega arith in
      let up : suc (rank e) ≡ next = omega (arith, is) in
      let same : on_front front (read_rows row size least (count - i) bytes) ≡ on_front (front ++ e ∷ []) (read_rows row size (suc (rank e)) (count - (i + 1)) after) = rw (k, one) (regroup front e (read_rows row size (suc (rank e)) (count - (i + 1)) after)) in
      ap (λ (n : ℕ). on_front (front ++ e ∷ []) (read_rows row size n (count - (i + 1)) after)) (sym up) ∙ sym same ∙ so_far

  pub rows-end : (e : ReadError) → i < count → IsWhyRead (field row size 2 (row_in least) bytes) e → IsWhyRead total e
  rows-end errors.Memory lt one = tt
  rows-end (errors.Fault fault) lt one =
      let k : count - i ≡ suc (count - (i + 1)) = omega arith in
      let same : on_front front (read_rows row size least (count - i) bytes) ≡ Err fault = rw (k, one) refl in
      sym so_far ∙ same

  pub rows-done : count ≤ i → total ≡ Ok (front, bytes)
  rows-done le =
      let k : count - i ≡ 0 = omega arith in
      let same : on_front front (read_rows row size least (count - i) bytes) ≡ Ok (front, bytes) = rw k (ap (λ (es : List StartEdge). Ok (es, bytes)) (append-nil front)) in
      sym so_far ∙ same
