-- Marks stay right.
use Rattle.std.proofs.Common.{◌≡◌, ◌<◌, ◌&&◌, ◌||◌, ◌==◌, ℕ, zero, suc, ◌+◌, Bool, true, false, not, if◌then◌else◌, List, [], ◌∷◌, ◌++◌, Option, Some, None, length, take, drop, get_or, inl, inr, refl, ap, sym, subst, ◌∙◌, arith}
use Rattle.std.specs.Prelude.{set, slice_get}
use Rattle.std.specs.List.{list_all}
use Rattle.std.specs.Option.{option_map_or}
use Rattle.std.proofs.lemmas.Bool.{and_parts, cases_eq}
use Rattle.std.proofs.lemmas.Bool.Decides.{Decides-eqb}
use Rattle.std.proofs.lemmas.List.{get_or-set_same, get_or-set_other, length-append, take-append-le}
use Rattle.acta_table.specs.declared.event.TxnId.{TxnId}
use Rattle.acta_table.specs.declared.answer.Fate.{Fate}
use Rattle.acta_table.specs.Fates.{is_open}
use Rattle.acta_table.specs.Numbered.{numbers_from, numbers_where}
use Rattle.acta_sets.specs.declared.chains.Mark.{Mark}
use Rattle.acta_sets.specs.declared.held_op.HeldOp.{HeldOp}
use Rattle.acta_sets.specs.declared.mode.ModeKey.{ModeKey}
use Rattle.acta_sets.specs.Chains.{Chained, is_passed, IsMarked, AreChained, mark_at, no_mark}
use Rattle.acta_sets.specs.Lineages.{Lineage, parent_in, depth_in, is_above, is_in_line, IsStill}
use Rattle.acta_sets.specs.Operations.{operation_at, is_held, ended, ended_op, transferred, transferred_op}
use Rattle.acta_sets.specs.inside.Listing.{belongs, passes_at}
use Rattle.acta_sets.specs.inside.Modes.{coarse, total_place}
use Rattle.acta_sets.proofs.Keys.{total_is}
use Rattle.acta_sets.proofs.Listed.{belongs_if, numbers-mapped, numbers_from-append, passes-appended, passes-mapped}
use Rattle.acta_sets.proofs.Lineages.{or_later, above-parent, above-none}

-- what holds of all numbers
pub all-from : (p q : ℕ → Bool) → ((n : ℕ) → p n ≡ true → q n ≡ true) → (ns : List ℕ) → list_all p ns ≡ true → list_all q ns ≡ true
all-from p q from [] all = refl
all-from p q from (n ∷ ns) all =
    let parts = and_parts (p n) (list_all p ns) all in
    ap (λ b. b && list_all q ns) (from n parts.0) ∙ all-from p q from ns parts.1

-- who is in the line of h is in that of another
passes_by : (o : Option HeldOp) (l k : Lineage) (h t : ℕ) → ((x : ℕ) → is_in_line l x h ≡ true → is_in_line k x t ≡ true) → option_map_or (is_passed l h) o false ≡ true → option_map_or (is_passed k t) o false ≡ true
passes_by None l k h t from e = e
passes_by (Some i) l k h t from e = or_later (not (is_open i.fate)) (is_in_line l i.holder.0 h) (is_in_line k i.holder.0 t) (from i.holder.0) e

pub passes-line : (l k : Lineage) (h t : ℕ) (items : List HeldOp) → ((x : ℕ) → is_in_line l x h ≡ true → is_in_line k x t ≡ true) → (n : ℕ) → passes_at (is_passed l h) items n ≡ true → passes_at (is_passed k t) items n ≡ true
passes-line l k h t items from n e = passes_by (operation_at items n) l k h t from e

pub AreChained-still : (items : List HeldOp) (old new : Lineage) (marks : List Mark) → IsStill old new → AreChained items (record { lineage = old; marks = marks }) → AreChained items (record { lineage = new; marks = marks })
AreChained-still items old new marks still are q =
    let mark = mark_at marks (total_place q) in
    ((are q).0, all-from (passes_at (is_passed old mark.lowest) items) (passes_at (is_passed new mark.lowest) items) (passes-line old new mark.lowest mark.lowest items (λ x. still x mark.lowest)) (take mark.upto (numbers_where (belongs coarse q) items)) (are q).1)

-- without marks
none_passed : (items : List HeldOp) (l : Lineage) (ns : List ℕ) (o : Option ℕ) → IsMarked l items ns (mark_at [] o)
none_passed items l ns None = (omega arith, refl)
none_passed items l ns (Some place) = (omega arith, refl)

pub AreChained-none : (items : List HeldOp) (l : Lineage) → AreChained items (record { lineage = l; marks = [] })
AreChained-none items l q = none_passed items l (numbers_where (belongs coarse q) items) (total_place q)

-- an operation that passes the test has a number
if_none : (b : Bool) (m : ℕ) (ns : List ℕ) → length (if b then m ∷ ns else ns) ≡ 0 → (b ≡ false) × (length ns ≡ 0)
if_none true m ns e = absurd (omega (arith, e))
if_none false m ns e = (refl, e)

no_number : (test : HeldOp → Bool) (m : ℕ) (items : List HeldOp) (k : ℕ) (i : HeldOp) → slice_get items k ≡ Some i → length (numbers_from test m items) ≡ 0 → test i ≡ false
no_number test m [] k i at none = cc
no_number test m (x ∷ items) zero i at none = let same : x ≡ i = cc in ap test (sym same) ∙ (if_none (test x) m (numbers_from test (m + 1) items) none).0
no_number test m (x ∷ items) (suc k) i at none = no_number test (m + 1) items k i at (if_none (test x) m (numbers_from test (m + 1) items) none).1

-- who holds nothing makes way for its parent
way_by : (running held : Bool) (here above : Bool) → (held && running) ≡ false → (here ≡ true → held ≡ true) → (not running || (here || above)) ≡ true → (not running || above) ≡ true
way_by false held here above free same e = refl
way_by true held true above free same e = let is = same refl in cc
way_by true held false above free same e = e

or_above : (l : Lineage) (h : ℕ) (p : TxnId) (x : ℕ) → parent_in l h ≡ Some p → depth_in l h ≡ suc (depth_in l p.0) → is_in_line l x h ≡ ((h == x) || is_in_line l x p.0)
or_above l h p x parent deep = ap (λ b. (h == x) || b) (above-parent l h p x parent deep)

way_of : (o : Option HeldOp) (l : Lineage) (h : ℕ) (p : TxnId) → parent_in l h ≡ Some p → depth_in l h ≡ suc (depth_in l p.0) → ((i : HeldOp) → o ≡ Some i → is_held h i ≡ false) → option_map_or (is_passed l h) o false ≡ true → option_map_or (is_passed l p.0) o false ≡ true
way_of None l h p parent deep free e = e
way_of (Some i) l h p parent deep free e =
    way_by (is_open i.fate) (i.holder.0 == h) (h == i.holder.0) (is_in_line l i.holder.0 p.0) (free i refl)
    (λ same. ap (λ k. k == h) (sym ((Decides-eqb h i.holder.0).0 same)) ∙ (Decides-eqb h h).1 refl)
    (sym (ap (λ b. not (is_open i.fate) || b) (or_above l h p i.holder.0 parent deep)) ∙ e)

free_at : (items : List HeldOp) (h : ℕ) (n : ℕ) (i : HeldOp) → length (numbers_where (is_held h) items) ≡ 0 → operation_at items n ≡ Some i → is_held h i ≡ false
free_at items h zero i none at = cc
free_at items h (suc k) i none at = no_number (is_held h) 1 items k i at none

pub passes-up : (l : Lineage) (h : ℕ) (p : TxnId) (items : List HeldOp) → parent_in l h ≡ Some p → depth_in l h ≡ suc (depth_in l p.0) → length (numbers_where (is_held h) items) ≡ 0 → (n : ℕ) → passes_at (is_passed l h) items n ≡ true → passes_at (is_passed l p.0) items n ≡ true
passes-up l h p items parent deep none n e = way_of (operation_at items n) l h p parent deep (λ i at. free_at items h n i none at) e

-- and where it has no parent, nothing is held
alone_by : (running held here above other : Bool) → (held && running) ≡ false → (here ≡ true → held ≡ true) → above ≡ false → (not running || (here || above)) ≡ true → (not running || other) ≡ true
alone_by false held here above other free same top e = refl
alone_by true held true above other free same top e = let is = same refl in cc
alone_by true held false above other free same top e = cc

alone_of : (o : Option HeldOp) (l : Lineage) (h t : ℕ) → parent_in l h ≡ None → ((i : HeldOp) → o ≡ Some i → is_held h i ≡ false) → option_map_or (is_passed l h) o false ≡ true → option_map_or (is_passed l t) o false ≡ true
alone_of None l h t parent free e = e
alone_of (Some i) l h t parent free e =
    alone_by (is_open i.fate) (i.holder.0 == h) (h == i.holder.0) (is_above l i.holder.0 h) (is_in_line l i.holder.0 t) (free i refl)
    (λ same. ap (λ k. k == h) (sym ((Decides-eqb h i.holder.0).0 same)) ∙ (Decides-eqb h h).1 refl) (above-none l h i.holder.0 parent) e

pub passes-top : (l : Lineage) (h t : ℕ) (items : List HeldOp) → parent_in l h ≡ None → length (numbers_where (is_held h) items) ≡ 0 → (n : ℕ) → passes_at (is_passed l h) items n ≡ true → passes_at (is_passed l t) items n ≡ true
passes-top l h t items parent none n e = alone_of (operation_at items n) l h t parent (λ i at. free_at items h n i none at) e

-- one more number
pub all-more : (p : ℕ → Bool) (ns : List ℕ) (k d : ℕ) → k < length ns → list_all p (take k ns) ≡ true → p (get_or ns k d) ≡ true → list_all p (take (suc k) ns) ≡ true
all-more p [] k d below all e = absurd (omega (arith, below))
all-more p (n ∷ ns) zero d below all e = ap (λ b. b && true) e
all-more p (n ∷ ns) (suc k) d below all e =
    let parts = and_parts (p n) (list_all p (take k ns)) all in
    ap (λ b. b && list_all p (take (suc k) ns)) parts.0 ∙ all-more p ns k d (omega (arith, below)) parts.1 e

-- the first numbers and the others are all
pub all-parts : (p : ℕ → Bool) (k : ℕ) (ns : List ℕ) → list_all p (take k ns) ≡ true → list_all p (drop k ns) ≡ true → list_all p ns ≡ true
all-parts p zero ns first rest = rest
all-parts p (suc k) [] first rest = refl
all-parts p (suc k) (n ∷ ns) first rest =
    let parts = and_parts (p n) (list_all p (take k ns)) first in
    ap (λ b. b && list_all p ns) parts.0 ∙ all-parts p k ns parts.1 rest

-- another mark at the place of a mode
module _ (items : List HeldOp) (l : Lineage) (marks mid : List Mark) (place : ℕ) (w : Mark) (k : ModeKey) (at : total_place k ≡ Some place) (below : place < length mid)
    (same : (n : ℕ) → get_or mid n no_mark ≡ get_or marks n no_mark) (are : AreChained items (record { lineage = l; marks = marks })) (is : IsMarked l items (numbers_where (belongs coarse k) items) w) where
  marked_by : (q : ModeKey) (o : Option ℕ) → total_place q ≡ o → IsMarked l items (numbers_where (belongs coarse q) items) (mark_at (set mid place w) o)
  marked_by q None there = (omega arith, refl)
  marked_by q (Some n) there = elim (cases_eq n place) [
    | inl here ↦
        let key : k ≡ q = total_is k q place at (there ∙ ap (λ i. Some i) here) in
        let mark : w ≡ get_or (set mid place w) n no_mark = sym (ap (λ i. get_or (set mid place w) i no_mark) here ∙ get_or-set_same mid place w no_mark below) in
        subst (λ (m : Mark). IsMarked l items (numbers_where (belongs coarse q) items) m) mark (subst (λ (r : ModeKey). IsMarked l items (numbers_where (belongs coarse r) items) w) key is)
    | inr off ↦
        let mark : mark_at marks (total_place q) ≡ get_or (set mid place w) n no_mark = ap (mark_at marks) there ∙ sym (get_or-set_other mid place n w no_mark off ∙ same n) in
        subst (λ (m : Mark). IsMarked l items (numbers_where (belongs coarse q) items) m) mark (are q)
  ]

  pub AreChained-set : AreChained items (record { lineage = l; marks = set mid place w })
  AreChained-set q = marked_by q (total_place q) refl

-- changes of operations that keep their modes and pass what was passed
pub AreChained-after : (items after : List HeldOp) (c : Chained) → ((q : ModeKey) → numbers_where (belongs coarse q) after ≡ numbers_where (belongs coarse q) items)
    → ((h n : ℕ) → passes_at (is_passed c.lineage h) items n ≡ true → passes_at (is_passed c.lineage h) after n ≡ true) → AreChained items c → AreChained after c
AreChained-after items after c same from are q =
    let mark = mark_at c.marks (total_place q) in
    subst (λ (ns : List ℕ). IsMarked c.lineage after ns mark) (sym (same q))
    ((are q).0, all-from (passes_at (is_passed c.lineage mark.lowest) items) (passes_at (is_passed c.lineage mark.lowest) after) (from mark.lowest) (take mark.upto (numbers_where (belongs coarse q) items)) (are q).1)

passed_if : (P : HeldOp → Bool) (b : Bool) (x i : HeldOp) → (b ≡ true → P i ≡ true → P x ≡ true) → P i ≡ true → P (if b then x else i) ≡ true
passed_if P true x i from e = from refl e
passed_if P false x i from e = e

or_left : (a b : Bool) → a ≡ true → (a || b) ≡ true
or_left true b e = refl
or_left false b e = cc

pub AreChained-ended : (items : List HeldOp) (c : Chained) (t : ℕ) (fate : Fate) → is_open fate ≡ false → AreChained items c → AreChained (ended t fate items) c
AreChained-ended items c t fate closed =
    AreChained-after items (ended t fate items) c
    (λ q. numbers-mapped (belongs coarse q) (ended_op t fate) 1 items (λ i. belongs_if coarse q (is_held t i) (record i { fate = fate }) i refl))
    (λ h. passes-mapped (is_passed c.lineage h) (ended_op t fate) items (λ i. passed_if (is_passed c.lineage h) (is_held t i) (record i { fate = fate }) i (λ held e. or_left (not (is_open fate)) (is_in_line c.lineage i.holder.0 h) (ap not closed))))

-- operations of a child that its parent gets
pub AreChained-up : (items : List HeldOp) (c : Chained) (t : ℕ) (u : TxnId) → ((h : ℕ) → is_in_line c.lineage t h ≡ true → is_in_line c.lineage u.0 h ≡ true) → AreChained items c → AreChained (transferred t u items) c
AreChained-up items c t u up =
    AreChained-after items (transferred t u items) c
    (λ q. numbers-mapped (belongs coarse q) (transferred_op t u) 1 items (λ i. belongs_if coarse q (is_held t i) (record i { holder = u }) i refl))
    (λ h. passes-mapped (is_passed c.lineage h) (transferred_op t u) items (λ i. passed_if (is_passed c.lineage h) (is_held t i) (record i { holder = u }) i
    (λ held e. or_later (not (is_open i.fate)) (is_in_line c.lineage i.holder.0 h) (is_in_line c.lineage u.0 h) (λ line. up h (ap (λ k. is_in_line c.lineage k h) (sym (holder-is t i held)) ∙ line)) e)))
  where
    holder-is : (t : ℕ) (i : HeldOp) → is_held t i ≡ true → i.holder.0 ≡ t
    holder-is t i held = (Decides-eqb i.holder.0 t).0 (and_parts (i.holder.0 == t) (is_open i.fate) held).0

-- one more operation
pub AreChained-added : (items : List HeldOp) (c : Chained) (x : HeldOp) → AreChained items c → AreChained (items ++ x ∷ []) c
AreChained-added items c x are q =
    let mark = mark_at c.marks (total_place q) in
    let ns = numbers_where (belongs coarse q) items in
    let more = if belongs coarse q x then (1 + length items) ∷ [] else [] in
    let long : length (ns ++ more) ≡ length ns + length more = length-append ns more in
    subst (λ (ms : List ℕ). IsMarked c.lineage (items ++ x ∷ []) ms mark) (sym (numbers_from-append (belongs coarse q) 1 items x)) (
      omega (arith, (are q).0, long),
      ap (list_all (passes_at (is_passed c.lineage mark.lowest) (items ++ x ∷ []))) (take-append-le mark.upto ns more (are q).0)
          ∙ all-from (passes_at (is_passed c.lineage mark.lowest) items) (passes_at (is_passed c.lineage mark.lowest) (items ++ x ∷ [])) (passes-appended (is_passed c.lineage mark.lowest) items x) (take mark.upto ns) (are q).1,
    )
