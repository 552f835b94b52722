-- Rows of start edges, ascending.
use Rattle.std.proofs.Common.{◌≡◌, ℕ, zero, suc, ◌+◌, ◌*◌, ◌<◌, ◌≤◌, Bool, true, false, leb, ◌==◌, List, [], ◌∷◌, ◌++◌, length, take, drop, ltb, Option, Some, None, Ok, refl, sym, ap, subst, ◌∙◌, append_assoc, arith}
use Rattle.std.specs.Prelude.{nat_le, ◌-◌, slice_index, slice_get, if◌then◌else◌, option_map, option_and_then}
use Rattle.std.specs.declared.cmp.Ordering.TheVariants.{Less}
use Rattle.std.specs.List.{flat_map, AllByRecursion}
use Rattle.std.specs.List.Sorted.{IsStrictlySortedBy}
use Rattle.std.specs.Ordering.{nat_cmp, ordering_then}
use Rattle.std.proofs.lemmas.Bool.{leb-true, le-leb, eqb-true}
use Rattle.std.proofs.lemmas.Bool.Decides.{nat_tests}
use Rattle.std.proofs.lemmas.List.Concat.{flat_map-cons}
use Rattle.acta_table.specs.declared.dep.Dep.{Dep}
use Rattle.acta_table.specs.declared.dep.Dep.TheVariants.{Cd, Scd, Ad, Wd, Td, Ed, Cmd, Bd, Sd, Bcd, Bad, Wcd}
use Rattle.acta_table.specs.declared.start_edges.Dependent.{Dependent}
use Rattle.acta_table.specs.declared.start_edges.Dependent.TheVariants.{Starter, Started}
use Rattle.acta_table.specs.declared.start_edges.StartEdge.{StartEdge}
use Rattle.acta_table.specs.Dependencies.{code_of, all_kinds}
use Rattle.acta_table.specs.Starts.{rank_of, start_edge_cmp}
use Rattle.acta_image.specs.declared.diagnostic.Field.{Field}
use Rattle.acta_image.specs.declared.fault.ImageFault.{ImageFault}
use Rattle.acta_image.specs.declared.fault.ImageFault.TheVariants.{BadField, Truncated}
use Rattle.acta_image.specs.Spelling.{row_bytes, rows_bytes}
use Rattle.acta_image.specs.Reading.{and_then, fault_at, field, field_or, found_or, some_if, dependent_in, rank, edge_in, row_in, read_rows, read_edges}
use Rattle.acta_image.specs.inside.Gives.{AreBytes}
use Rattle.acta_image.proofs.Formats.{then-ok, then-is, done, done-is, Takes, takes-then, IsFormat, then-format, parsed-format}
use Rattle.acta_image.proofs.FieldCodes.{guard-ok, found-ok, some-ok, some-is, IsCode, field-format, byte-code}

-- start edges in canonical order, each once
abbrev pub Sorted : List StartEdge → Type 0
Sorted es = IsStrictlySortedBy start_edge_cmp es

edge-again : (kind : Dep) (dependent : Dependent) → edge_in (code_of kind) (rank_of dependent) ≡ Some (record { kind = kind; dependent = dependent })
edge-again Cd Starter = refl
edge-again Cd Started = refl
edge-again Scd Starter = refl
edge-again Scd Started = refl
edge-again Ad Starter = refl
edge-again Ad Started = refl
edge-again Wd Starter = refl
edge-again Wd Started = refl
edge-again Td Starter = refl
edge-again Td Started = refl
edge-again Ed Starter = refl
edge-again Ed Started = refl
edge-again Cmd Starter = refl
edge-again Cmd Started = refl
edge-again Bd Starter = refl
edge-again Bd Started = refl
edge-again Sd Starter = refl
edge-again Sd Started = refl
edge-again Bcd Starter = refl
edge-again Bcd Started = refl
edge-again Bad Starter = refl
edge-again Bad Started = refl
edge-again Wcd Starter = refl
edge-again Wcd Started = refl

kind-back : (a : ℕ) (kind : Dep) → slice_get all_kinds a ≡ Some kind → code_of kind ≡ a
kind-back zero kind e = ap code_of (sym (some-is Cd kind e))
kind-back (suc zero) kind e = ap code_of (sym (some-is Scd kind e))
kind-back (suc (suc zero)) kind e = ap code_of (sym (some-is Ad kind e))
kind-back (suc (suc (suc zero))) kind e = ap code_of (sym (some-is Wd kind e))
kind-back (suc (suc (suc (suc zero)))) kind e = ap code_of (sym (some-is Td kind e))
kind-back (suc (suc (suc (suc (suc zero))))) kind e = ap code_of (sym (some-is Ed kind e))
kind-back (suc (suc (suc (suc (suc (suc zero)))))) kind e = ap code_of (sym (some-is Cmd kind e))
kind-back (suc (suc (suc (suc (suc (suc (suc zero))))))) kind e = ap code_of (sym (some-is Bd kind e))
kind-back (suc (suc (suc (suc (suc (suc (suc (suc zero)))))))) kind e = ap code_of (sym (some-is Sd kind e))
kind-back (suc (suc (suc (suc (suc (suc (suc (suc (suc zero))))))))) kind e = ap code_of (sym (some-is Bcd kind e))
kind-back (suc (suc (suc (suc (suc (suc (suc (suc (suc (suc zero)))))))))) kind e = ap code_of (sym (some-is Bad kind e))
kind-back (suc (suc (suc (suc (suc (suc (suc (suc (suc (suc (suc zero))))))))))) kind e = ap code_of (sym (some-is Wcd kind e))
kind-back (suc (suc (suc (suc (suc (suc (suc (suc (suc (suc (suc (suc n)))))))))))) kind e = absurd cc

dependent-back : (b : ℕ) (d : Dependent) → dependent_in b ≡ Some d → rank_of d ≡ b
dependent-back b d e = of_test (b == 0) refl e
  where
    of_test : (t : Bool) → (b == 0) ≡ t → (if t then Some Starter else some_if (b == 1) Started) ≡ Some d → rank_of d ≡ b
    of_test true is f = ap rank_of (sym (some-is Starter d f)) ∙ sym (eqb-true _ _ is)
    of_test false is f = let s = some-ok (b == 1) Started d f in ap rank_of (sym s.1) ∙ sym (eqb-true _ _ s.0)

edge-back : (a b : ℕ) (e : StartEdge) → edge_in a b ≡ Some e → (code_of e.kind ≡ a) × (rank_of e.dependent ≡ b)
edge-back a b e found = of_kind (slice_get all_kinds a) refl (dependent_in b) refl found
  where
    of_kind : (o : Option Dep) → slice_get all_kinds a ≡ o → (p : Option Dependent) → dependent_in b ≡ p
        → option_and_then (λ k. option_map (λ d. record { kind = k; dependent = d }) p) o ≡ Some e → (code_of e.kind ≡ a) × (rank_of e.dependent ≡ b)
    of_kind None is p at f = absurd cc
    of_kind (Some k) is None at f = absurd cc
    of_kind (Some k) is (Some d) at f =
        let same = some-is (record { kind = k; dependent = d }) e f in
        (ap (λ (x : StartEdge). code_of x.kind) (sym same) ∙ kind-back a k is, ap (λ (x : StartEdge). rank_of x.dependent) (sym same) ∙ dependent-back b d at)

-- a row
pub row-code : (least : ℕ) → IsCode 2 (row_in least) row_bytes (λ e. least ≤ rank e)
row-code least = record {
  len = λ e ok. refl;
  again = λ e ok.
      ap (λ (o : Option StartEdge). option_and_then (λ x. some_if (nat_le least (rank x)) x) o) (edge-again e.kind e.dependent)
      ∙ ap (λ (b : Bool). some_if b e) (le-leb _ _ ok);
  back = λ bs fits two e found. row-back bs two e found;
}
  where
    of_edge : (a b : ℕ) (e : StartEdge) (o : Option StartEdge) → edge_in a b ≡ o → option_and_then (λ x. some_if (nat_le least (rank x)) x) o ≡ Some e → (row_bytes e ≡ a ∷ b ∷ []) × (least ≤ rank e)
    of_edge a b e None is f = absurd cc
    of_edge a b e (Some x) is f =
        let s = some-ok (leb least (rank x)) x e f in
        let back = edge-back a b x is in
        subst (λ (y : StartEdge). (row_bytes y ≡ a ∷ b ∷ []) × (least ≤ rank y)) s.1 (λ i. back.0 i ∷ back.1 i ∷ [], leb-true _ _ s.0)

    row-back : (bs : List ℕ) → length bs ≡ 2 → (e : StartEdge) → row_in least bs ≡ Some e → (row_bytes e ≡ bs) × (least ≤ rank e)
    row-back [] two e f = absurd (omega (arith, two))
    row-back (a ∷ []) two e f = absurd (omega (arith, two))
    row-back (a ∷ b ∷ c ∷ more) two e f = absurd (omega (arith, two))
    row-back (a ∷ b ∷ []) two e f = of_edge a b e (edge_in a b) refl f

-- start edges of ascending rank, the first of at least this rank
abbrev pub Ascends : ℕ → List StartEdge → Type 0
Ascends least [] = Unit {0}
Ascends least (e ∷ es) = (least ≤ rank e) × Ascends (suc (rank e)) es

rows-take : (row : Field) (size least n : ℕ) (bytes : List ℕ) (es : List StartEdge) (rest : List ℕ) → AreBytes bytes → read_rows row size least n bytes ≡ Ok (es, rest) → Takes bytes (flat_map row_bytes es) rest × ((length es ≡ n) × Ascends least es)
rows-take row size least zero bytes es rest fits e =
    subst (λ (y : List StartEdge × List ℕ). Takes bytes (flat_map row_bytes y.0) y.1 × ((length y.0 ≡ 0) × Ascends least y.0)) (done-is ([], bytes) (es, rest) e) (record { parts = refl; fits = fits }, (refl, tt))
rows-take row size least (suc n) bytes es rest fits e =
    let format = field-format (row-code least) row size in
    let a = then-ok (field row size 2 (row_in least) bytes) (λ (x : StartEdge × List ℕ). and_then (read_rows row size (suc (rank x.0)) n x.1) (λ (others : List StartEdge × List ℕ). done (x.0 ∷ others.0, others.1))) (es, rest) e in
    let b = then-ok (read_rows row size (suc (rank a.0.0)) n a.0.1) (λ (others : List StartEdge × List ℕ). done (a.0.0 ∷ others.0, others.1)) (es, rest) a.2 in
    let first = format.takes bytes a.0.0 a.0.1 fits a.1 in
    let second = rows-take row size (suc (rank a.0.0)) n a.0.1 b.0.0 b.0.1 first.0.fits b.1 in
    let both = takes-then bytes (row_bytes a.0.0) a.0.1 (flat_map row_bytes b.0.0) b.0.1 first.0 second.0 in
    subst (λ (y : List StartEdge × List ℕ). Takes bytes (flat_map row_bytes y.0) y.1 × ((length y.0 ≡ suc n) × Ascends least y.0)) (done-is (a.0.0 ∷ b.0.0, b.0.1) (es, rest) b.2)
    (rw flat_map-cons both, (ap suc second.1.0, (first.1, second.1.1)))

rows-again : (row : Field) (size least n : ℕ) (es : List StartEdge) (rest : List ℕ) → length es ≡ n → Ascends least es → read_rows row size least n (flat_map row_bytes es ++ rest) ≡ Ok (es, rest)
rows-again row size least zero [] rest len ok = refl
rows-again row size least zero (e ∷ es) rest len ok = absurd (omega (arith, len))
rows-again row size least (suc n) [] rest len ok = absurd (omega (arith, len))
rows-again row size least (suc n) (e ∷ es) rest len ok =
    let format = field-format (row-code least) row size in
    ap (read_rows row size least (suc n)) (ap (λ (t : List ℕ). t ++ rest) (flat_map-cons row_bytes e es) ∙ append_assoc (row_bytes e) (flat_map row_bytes es) rest)
    ∙ then-is (field row size 2 (row_in least) (row_bytes e ++ (flat_map row_bytes es ++ rest))) (λ (y : StartEdge × List ℕ). and_then (read_rows row size (suc (rank y.0)) n y.1) (λ (others : List StartEdge × List ℕ). done (y.0 ∷ others.0, others.1))) (e, flat_map row_bytes es ++ rest) (Ok (e ∷ es, rest))
    (format.again e (flat_map row_bytes es ++ rest) ok.0)
    (then-is (read_rows row size (suc (rank e)) n (flat_map row_bytes es ++ rest)) (λ (others : List StartEdge × List ℕ). done (e ∷ others.0, others.1)) (es, rest) (Ok (e ∷ es, rest)) (rows-again row size (suc (rank e)) n es rest (omega (arith, len)) ok.1) refl)

rows-format : (row : Field) (size least n : ℕ) → IsFormat (read_rows row size least n) (flat_map row_bytes) (λ es. (length es ≡ n) × Ascends least es)
rows-format row size least n = record { takes = rows-take row size least n; again = λ es rest ok. rows-again row size least n es rest ok.0 ok.1 }

-- ---- ascending by rank is ascending in canonical order

code-small : (kind : Dep) → code_of kind ≤ 11
code-small Cd = omega arith
code-small Scd = omega arith
code-small Ad = omega arith
code-small Wd = omega arith
code-small Td = omega arith
code-small Ed = omega arith
code-small Cmd = omega arith
code-small Bd = omega arith
code-small Sd = omega arith
code-small Bcd = omega arith
code-small Bad = omega arith
code-small Wcd = omega arith

rank-small : (d : Dependent) → rank_of d ≤ 1
rank-small Starter = omega arith
rank-small Started = omega arith

less-rank : (a b c d : ℕ) → c ≤ 1 → d ≤ 1 → ordering_then (nat_cmp a b) (nat_cmp c d) ≡ Less → 2 * a + c < 2 * b + d
less-rank a b c d le me e = grind (arith, nat_tests)

rank-less : (a b c d : ℕ) → c ≤ 1 → d ≤ 1 → 2 * a + c < 2 * b + d → ordering_then (nat_cmp a b) (nat_cmp c d) ≡ Less
rank-less a b c d le me lt = grind (arith, nat_tests)

ascends-from : (least : ℕ) (es : List StartEdge) → IsStrictlySortedBy start_edge_cmp es → AllByRecursion (λ e. least ≤ rank e) es → Ascends least es
unfolding IsStrictlySortedBy
ascends-from least [] sorted all = tt
ascends-from least (e ∷ es) sorted all = (all.0, ascends-from (suc (rank e)) es sorted.1 (behind es sorted.0))
  where
    behind : (fs : List StartEdge) → AllByRecursion (λ f. start_edge_cmp e f ≡ Less) fs → AllByRecursion (λ f. suc (rank e) ≤ rank f) fs
    behind [] less = tt
    behind (f ∷ fs) less = (let lt = less-rank (code_of e.kind) (code_of f.kind) (rank_of e.dependent) (rank_of f.dependent) (rank-small e.dependent) (rank-small f.dependent) less.0 in omega (arith, lt), behind fs less.1)

least-all : (least most : ℕ) (es : List StartEdge) → most ≤ least → Ascends least es → AllByRecursion (λ e. most ≤ rank e) es
least-all least most [] le ok = tt
least-all least most (e ∷ es) le ok = (let first = ok.0 in omega (arith, first, le), least-all (suc (rank e)) most es (let first = ok.0 in omega (arith, first, le)) ok.1)

ascends-sorted : (least : ℕ) (es : List StartEdge) → Ascends least es → IsStrictlySortedBy start_edge_cmp es
unfolding IsStrictlySortedBy
ascends-sorted least [] ok = tt
ascends-sorted least (e ∷ es) ok = (behind es (least-all (suc (rank e)) (suc (rank e)) es (omega arith) ok.1), ascends-sorted (suc (rank e)) es ok.1)
  where
    behind : (fs : List StartEdge) → AllByRecursion (λ f. suc (rank e) ≤ rank f) fs → AllByRecursion (λ f. start_edge_cmp e f ≡ Less) fs
    behind [] above = tt
    behind (f ∷ fs) above = (let lt = above.0 in rank-less (code_of e.kind) (code_of f.kind) (rank_of e.dependent) (rank_of f.dependent) (rank-small e.dependent) (rank-small f.dependent) (omega (arith, lt)), behind fs above.1)

ascends-few : (least : ℕ) (es : List StartEdge) → least ≤ 24 → Ascends least es → length es + least ≤ 24
ascends-few least [] le ok = omega (arith, le)
ascends-few least (e ∷ es) le ok =
    let code = code-small e.kind in
    let side = rank-small e.dependent in
    let first = ok.0 in
    let few = ascends-few (suc (rank e)) es (omega (arith, code, side)) ok.1 in
    omega (arith, first, few)

-- the number of rows, and the rows
pub edges-format : (counted row : Field) (size : ℕ) → IsFormat (read_edges counted row size) rows_bytes Sorted
unfolding read_edges
edges-format counted row size =
    parsed-format (then-format (field-format (byte-code 0 24) counted size) (λ es. length es) (read_rows row size 0) (flat_map row_bytes) (λ n es. (length es ≡ n) × Ascends 0 es) (λ n ok. rows-format row size 0 n) (λ n within es ok. ok.0))
    rows_bytes Sorted (λ es. refl) (λ es ok. ascends-sorted 0 es ok.1.1)
    (λ es sorted. let up = ascends-from 0 es sorted (from_zero es) in ((omega arith, let few = ascends-few 0 es (omega arith) up in omega (arith, few)), (refl, up)))
  where
    from_zero : (es : List StartEdge) → AllByRecursion (λ e. 0 ≤ rank e) es
    from_zero [] = tt
    from_zero (e ∷ es) = (omega arith, from_zero es)

-- a row that was read has at least the rank required
row-least : (least : ℕ) (fault : ImageFault) (row : Field) (size : ℕ) (bytes : List ℕ) (e : StartEdge) (rest : List ℕ) → field_or fault row size 2 (row_in least) bytes ≡ Ok (e, rest) → least ≤ rank e
row-least least fault row size bytes e rest is =
    let g = guard-ok (ltb (length bytes) 2) (fault_at Truncated row size bytes) (found_or (fault_at fault row size bytes) (drop 2 bytes) (row_in least (take 2 bytes))) (e, rest) is in
    let f = found-ok (fault_at fault row size bytes) (drop 2 bytes) (row_in least (take 2 bytes)) e rest g.1 in
    of_edge (edge_in (slice_index (take 2 bytes) 0) (slice_index (take 2 bytes) 1)) f.0
  where
    of_edge : (o : Option StartEdge) → option_and_then (λ x. some_if (nat_le least (rank x)) x) o ≡ Some e → least ≤ rank e
    of_edge None f = absurd cc
    of_edge (Some x) f = let s = some-ok (leb least (rank x)) x e f in subst (λ (y : StartEdge). least ≤ rank y) s.1 (leb-true _ _ s.0)

-- rows that were read are ascending
rows-ascend : (row : Field) (size least n : ℕ) (bytes : List ℕ) (es : List StartEdge) (rest : List ℕ) → read_rows row size least n bytes ≡ Ok (es, rest) → Ascends least es
rows-ascend row size least zero bytes es rest e = subst (λ (y : List StartEdge × List ℕ). Ascends least y.0) (done-is ([], bytes) (es, rest) e) tt
rows-ascend row size least (suc n) bytes es rest e =
    let a = then-ok (field row size 2 (row_in least) bytes) (λ (x : StartEdge × List ℕ). and_then (read_rows row size (suc (rank x.0)) n x.1) (λ (others : List StartEdge × List ℕ). done (x.0 ∷ others.0, others.1))) (es, rest) e in
    let b = then-ok (read_rows row size (suc (rank a.0.0)) n a.0.1) (λ (others : List StartEdge × List ℕ). done (a.0.0 ∷ others.0, others.1)) (es, rest) a.2 in
    subst (λ (y : List StartEdge × List ℕ). Ascends least y.0) (done-is (a.0.0 ∷ b.0.0, b.0.1) (es, rest) b.2)
    (row-least least (BadField (size - length bytes)) row size bytes a.0.0 a.0.1 a.1, rows-ascend row size (suc (rank a.0.0)) n a.0.1 b.0.0 b.0.1 b.1)

-- so that they are a set
pub rows-sorted : (row : Field) (size n : ℕ) (bytes : List ℕ) (es : List StartEdge) (rest : List ℕ) → read_rows row size 0 n bytes ≡ Ok (es, rest) → IsStrictlySortedBy start_edge_cmp es
rows-sorted row size n bytes es rest e = ascends-sorted 0 es (rows-ascend row size 0 n bytes es rest e)

-- a set has at most two start edges of each kind
pub sorted-few : (es : List StartEdge) → IsStrictlySortedBy start_edge_cmp es → length es ≤ 24
sorted-few es sorted = let few = ascends-few 0 es (omega arith) (ascends-from 0 es sorted (all_from_zero es)) in omega (arith, few)
  where
    all_from_zero : (es : List StartEdge) → AllByRecursion (λ e. 0 ≤ rank e) es
    all_from_zero [] = tt
    all_from_zero (e ∷ es) = (omega arith, all_from_zero es)
