-- Where all conflicting operations are passed, none of others conflicts.
use Rattle.std.proofs.Common.{◌≡◌, ◌≤◌, ◌&&◌, ◌||◌, ◌==◌, ℕ, zero, suc, ◌+◌, Bool, true, false, not, cond, List, [], ◌∷◌, Option, Some, None, refl, ap, sym, ◌∙◌, arith}
use Rattle.std.specs.Prelude.{find}
use Rattle.std.specs.List.{list_all, list_any, position_from}
use Rattle.std.specs.Option.{option_map_or}
use Rattle.std.proofs.lemmas.Bool.{and_parts, or_parts}
use Rattle.std.proofs.lemmas.Bool.Decides.{Decides-eqb}
use Rattle.acta_table.specs.declared.event.Op.{Op}
use Rattle.acta_table.specs.declared.event.Op.TheVariants.{Read, Write, Get, Add, Insert, Remove, Has, Size}
use Rattle.acta_table.specs.declared.event.TxnId.{TxnId}
use Rattle.acta_table.specs.Ancestors.{ancestors_from}
use Rattle.acta_table.specs.Fates.{is_open}
use Rattle.acta_table.specs.Numbered.{numbers_where}
use Rattle.acta_sets.specs.declared.held_op.HeldOp.{HeldOp}
use Rattle.acta_sets.specs.declared.mode.Holder.TheVariants.{Anyone}
use Rattle.acta_sets.specs.declared.mode.LockMode.{LockMode}
use Rattle.acta_sets.specs.declared.mode.LockMode.TheVariants.{Reads, Writes, Gets, Adds, Changes, ChangesOf}
use Rattle.acta_sets.specs.Chains.{is_passed, ArePassed}
use Rattle.acta_sets.specs.Lineages.{Lineage, parent_in, depth_in, is_above, is_in_line, AreExempt}
use Rattle.acta_sets.specs.Operations.{operation_at, is_against_but, ops_conflict}
use Rattle.acta_sets.specs.inside.Listing.{belongs, passes_at}
use Rattle.acta_sets.specs.inside.Modes.{coarse, listed_fine, of_mode}
use Rattle.acta_sets.specs.Chains.{AreRivals}
use Rattle.acta_sets.proofs.Lineages.{or_right}
use Rattle.acta_sets.proofs.Searching.{cover, key_in, find-listed}

-- with more generations, no ancestor is lost
more_chain : (n k : ℕ) (parent : ℕ → Option TxnId) (o : Option TxnId) (u : ℕ) → n ≤ k → list_any (λ a. a.0 == u) (ancestors_from n parent o) ≡ true → list_any (λ a. a.0 == u) (ancestors_from k parent o) ≡ true
more_chain n k parent None u le e = cc
more_chain zero k parent (Some p) u le e = cc
more_chain (suc n) zero parent (Some p) u le e = absurd (omega (arith, le))
more_chain (suc n) (suc k) parent (Some p) u le e = by (p.0 == u) (more_chain n k parent (parent p.0) u (omega (arith, le))) e
  where
    by : (b : Bool) → (list_any (λ a. a.0 == u) (ancestors_from n parent (parent p.0)) ≡ true → list_any (λ a. a.0 == u) (ancestors_from k parent (parent p.0)) ≡ true) → (b || list_any (λ a. a.0 == u) (ancestors_from n parent (parent p.0))) ≡ true → (b || list_any (λ a. a.0 == u) (ancestors_from k parent (parent p.0))) ≡ true
    by true later e = refl
    by false later e = later e

-- who is in the line of t is t or exempt
line-exempt : (l : Lineage) (t : ℕ) (exempt : ℕ → Bool) (u : ℕ) → depth_in l t ≤ l.most → AreExempt l t exempt → is_in_line l u t ≡ true → ((u == t) || exempt u) ≡ true
line-exempt l t exempt u low are e = by (t == u) refl e
  where
    by : (b : Bool) → (t == u) ≡ b → (b || is_above l u t) ≡ true → ((u == t) || exempt u) ≡ true
    by true same e = ap (λ k. (k == t) || exempt k) (sym ((Decides-eqb t u).0 same)) ∙ ap (λ b. b || exempt t) ((Decides-eqb t t).1 refl)
    by false same e = or_right (u == t) (exempt u) (are u (more_chain (depth_in l t) l.most (parent_in l) (parent_in l t) u low e))

-- no operation in the mode is other than passed
none_found : (p q : ℕ → Bool) → ((n : ℕ) → p n ≡ true → q n ≡ false) → (ns : List ℕ) → list_all p ns ≡ true → find q ns ≡ None
none_found p q apart [] all = refl
none_found p q apart (n ∷ ns) all =
    let parts = and_parts (p n) (list_all p ns) all in
    ap (λ b. cond b (Some n) (find q ns)) (apart n parts.0) ∙ none_found p q apart ns parts.1

apart_at : (P : HeldOp → Bool) (o : Option HeldOp) → option_map_or P o false ≡ true → option_map_or (λ i. not (P i)) o false ≡ false
apart_at P None e = refl
apart_at P (Some i) e = ap not e

no_first : (test : HeldOp → Bool) (n : ℕ) (items : List HeldOp) → position_from test n items ≡ None → list_any test items ≡ false
no_first test n [] e = refl
no_first test n (i ∷ items) e = by (test i) (no_first test (n + 1) items) e
  where
    by : (b : Bool) → (position_from test (n + 1) items ≡ None → list_any test items ≡ false) → cond b (Some n) (position_from test (n + 1) items) ≡ None → (b || list_any test items) ≡ false
    by true later e = cc
    by false later e = later e

passed-none : (b P : HeldOp → Bool) (items : List HeldOp) → list_all (passes_at P items) (numbers_where b items) ≡ true → list_any (λ i. b i && not (P i)) items ≡ false
passed-none b P items all =
    no_first (λ i. b i && not (P i)) 1 items
    (sym (find-listed b (λ i. not (P i)) items)
    ∙ none_found (passes_at P items) (passes_at (λ i. not (P i)) items) (λ n. apart_at P (operation_at items n)) (numbers_where b items) all)

changes_of : (x : _) (q : Op) → of_mode (ChangesOf x) (listed_fine q) ≡ true → of_mode Changes (coarse q) ≡ true
changes_of x Read e = cc
changes_of x (Write v) e = cc
changes_of x Get e = cc
changes_of x (Add n) e = cc
changes_of x (Insert y) e = refl
changes_of x (Remove y) e = refl
changes_of x (Has y) e = cc
changes_of x Size e = cc

twice : (b : Bool) → b ≡ true → (b || b) ≡ true
twice b e = λ i. e i || e i

-- the coarse modes of operations that conflict with an operation
pub rival-Read : AreRivals Writes Writes Read
rival-Read q e = twice (of_mode Writes (coarse q)) (cover Read q e)

pub rival-Write : (v : _) → AreRivals Reads Writes (Write v)
rival-Write v q e = cover (Write v) q e

pub rival-Get : AreRivals Adds Adds Get
rival-Get q e = twice (of_mode Adds (coarse q)) (cover Get q e)

pub rival-Add : (n : _) → AreRivals Gets Gets (Add n)
rival-Add n q e = twice (of_mode Gets (coarse q)) (cover (Add n) q e)

pub rival-Has : (x : _) → AreRivals Changes Changes (Has x)
rival-Has x q e = twice (of_mode Changes (coarse q)) (changes_of x q (cover (Has x) q e))

pub rival-Size : AreRivals Changes Changes Size
rival-Size q e = twice (of_mode Changes (coarse q)) (cover Size q e)

-- an operation that conflicts is in one of these modes, and not passed
against_parts : (running own exempted at conflicts : Bool) → (running && not own && not exempted && at && conflicts) ≡ true → (running ≡ true) × (own ≡ false) × (exempted ≡ false) × (at ≡ true) × (conflicts ≡ true)
against_parts false own exempted at conflicts e = cc
against_parts true true exempted at conflicts e = cc
against_parts true false true at conflicts e = cc
against_parts true false false false conflicts e = cc
against_parts true false false true false e = cc
against_parts true false false true true e = (refl, refl, refl, refl, refl)

not_line : (line own exempted : Bool) → (line ≡ true → (own || exempted) ≡ true) → own ≡ false → exempted ≡ false → line ≡ false
not_line true own exempted from free kept = let e = sym (from refl) ∙ (λ i. free i || kept i) in cc
not_line false own exempted from free kept = refl

either_none : (p q r : HeldOp → Bool) → ((i : HeldOp) → p i ≡ true → (q i || r i) ≡ true) → (items : List HeldOp) → list_any q items ≡ false → list_any r items ≡ false → list_any p items ≡ false
either_none p q r from [] none nor = refl
either_none p q r from (i ∷ items) none nor =
    let left = or_parts (q i) (list_any q items) none in
    let right = or_parts (r i) (list_any r items) nor in
    by (p i) refl left.0 right.0 (either_none p q r from items left.1 right.1)
  where
    by : (b : Bool) → p i ≡ b → q i ≡ false → r i ≡ false → list_any p items ≡ false → (p i || list_any p items) ≡ false
    by true is left right rest = let e = sym (from i is) ∙ (λ j. left j || right j) in cc
    by false is left right rest = λ j. is j || rest j

module _ (l : Lineage) (t : ℕ) (exempt : ℕ → Bool) (low : depth_in l t ≤ l.most) (are : AreExempt l t exempt) (items : List HeldOp) (ob : ℕ) (p : Op) where
  abbrev in_mode : LockMode → HeldOp → Bool
  in_mode c = belongs coarse (record { holder = Anyone; ob = ob; mode = c })

  abbrev is_left : LockMode → HeldOp → Bool
  is_left c i = in_mode c i && not (is_passed l t i)

  left : (c : LockMode) (i : HeldOp) → is_against_but t exempt ob p i ≡ true → of_mode c (coarse i.op) ≡ true → is_left c i ≡ true
  left c i against mode =
      let parts = against_parts (is_open i.fate) (i.holder.0 == t) (exempt i.holder.0) (i.ob.0 == ob) (ops_conflict i.op p) against in
      let line = not_line (is_in_line l i.holder.0 t) (i.holder.0 == t) (exempt i.holder.0) (line-exempt l t exempt i.holder.0 low are) parts.1 parts.2 in
      λ j. (key_in ob c i.ob.0 (coarse i.op) ∙ (λ k. parts.3 k && mode k)) j && not (not (parts.0 j) || line j)

  passed_left : (c : LockMode) → ArePassed l t items (numbers_where (in_mode c) items) → list_any (is_left c) items ≡ false
  passed_left c passed = passed-none (in_mode c) (is_passed l t) items passed

  pub clear : (c d : LockMode) → AreRivals c d p → ArePassed l t items (numbers_where (in_mode c) items) → ArePassed l t items (numbers_where (in_mode d) items) → list_any (is_against_but t exempt ob p) items ≡ false
  clear c d rivals passed passed_too =
      either_none (is_against_but t exempt ob p) (is_left c) (is_left d)
      (λ i against. either (of_mode c (coarse i.op)) (of_mode d (coarse i.op)) (is_left c i) (is_left d i) (left c i against) (left d i against) (rivals i.op (against_parts (is_open i.fate) (i.holder.0 == t) (exempt i.holder.0) (i.ob.0 == ob) (ops_conflict i.op p) against).4))
      items (passed_left c passed) (passed_left d passed_too)
    where
      either : (a b x y : Bool) → (a ≡ true → x ≡ true) → (b ≡ true → y ≡ true) → (a || b) ≡ true → (x || y) ≡ true
      either true b x y f g e = ap (λ z. z || y) (f refl)
      either false b x y f g e = or_right x y (g e)
