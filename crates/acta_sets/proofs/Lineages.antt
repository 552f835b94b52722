-- Ancestors by the parents that are remembered.
use Rattle.std.proofs.Common.{◌≡◌, ◌≢◌, ◌<◌, ◌≤◌, ◌==◌, ◌||◌, ℕ, zero, suc, ◌+◌, Bool, true, false, List, ◌∷◌, Option, Some, None, length, get_or, refl, ap, sym, subst, ◌∙◌, inl, inr, arith}
use Rattle.std.specs.Prelude.{set}
use Rattle.std.specs.List.{list_any}
use Rattle.std.proofs.lemmas.Bool.{cases_eq}
use Rattle.std.proofs.lemmas.Bool.Decides.{Decides-eqb}
use Rattle.std.proofs.lemmas.List.{get_or-set_same, get_or-set_other, length-set}
use Rattle.acta_table.specs.declared.event.TxnId.{TxnId}
use Rattle.acta_table.specs.Ancestors.{ancestors_from}
use Rattle.acta_sets.specs.declared.lineage.Entry.{Entry}
use Rattle.acta_sets.specs.Lineages.{Lineage, unknown, parent_in, depth_in, jump_in, is_above, is_in_line, AreExempt, IsWellFounded, IsStill}

pub or_right : (a b : Bool) → b ≡ true → (a || b) ≡ true
or_right true b e = refl
or_right false b e = e

pub or_later : (a b c : Bool) → (b ≡ true → c ≡ true) → (a || b) ≡ true → (a || c) ≡ true
or_later true b c from e = refl
or_later false b c from e = from e

-- the ancestors of a child are its parent and the parent's ancestors
pub above-parent : (l : Lineage) (t : ℕ) (p : TxnId) (x : ℕ) → parent_in l t ≡ Some p → depth_in l t ≡ suc (depth_in l p.0) → is_above l x t ≡ is_in_line l x p.0
above-parent l t p x here deep = λ i. list_any (λ a. a.0 == x) (ancestors_from (deep i) (parent_in l) (here i))

pub line-up : (l : Lineage) (t : ℕ) (p : TxnId) (x : ℕ) → parent_in l t ≡ Some p → depth_in l t ≡ suc (depth_in l p.0) → is_in_line l x p.0 ≡ true → is_in_line l x t ≡ true
line-up l t p x here deep e = or_right (t == x) (is_above l x t) (above-parent l t p x here deep ∙ e)

-- a transaction without a parent has no ancestors
pub above-none : (l : Lineage) (t x : ℕ) → parent_in l t ≡ None → is_above l x t ≡ false
above-none l t x none = λ i. list_any (λ a. a.0 == x) (ancestors_from (depth_in l t) (parent_in l) (none i))

-- who is in the line of one in the line of t is in the line of t
module _ (l : Lineage) (deeper : (t : ℕ) (p : TxnId) → parent_in l t ≡ Some p → depth_in l t ≡ suc (depth_in l p.0)) (x u : ℕ) (line : is_in_line l x u ≡ true) where
  through_by : (t : ℕ) (b : Bool) → (t == u) ≡ b → ((p : TxnId) → parent_in l t ≡ Some p → is_in_line l u p.0 ≡ true → is_in_line l x p.0 ≡ true) → (b || is_above l u t) ≡ true → is_in_line l x t ≡ true
  through_by t true same later e = ap (is_in_line l x) ((Decides-eqb t u).0 same) ∙ line
  through_by t false other later e = by (parent_in l t) refl
    where
      by : (o : Option TxnId) → parent_in l t ≡ o → is_in_line l x t ≡ true
      by None none = let no : true ≡ false = sym e ∙ above-none l t u none in cc
      by (Some p) has = let deep = deeper t p has in line-up l t p x has deep (later p has (sym (above-parent l t p u has deep) ∙ e))

  through : (n t : ℕ) → depth_in l t ≡ n → is_in_line l u t ≡ true → is_in_line l x t ≡ true
  through zero t deep e = through_by t (t == u) refl (λ p has other. let more = deeper t p has in absurd (omega (arith, deep, more))) e
  through (suc n) t deep e = through_by t (t == u) refl (λ p has other. let more = deeper t p has in through n p.0 (omega (arith, deep, more)) other) e

  pub line-through : (t : ℕ) → is_in_line l u t ≡ true → is_in_line l x t ≡ true
  line-through t e = through (depth_in l t) t refl e

-- an ancestor is less deep
module _ (l : Lineage) (deeper : (t : ℕ) (p : TxnId) → parent_in l t ≡ Some p → depth_in l t ≡ suc (depth_in l p.0)) (x : ℕ) where
  in_line_depth : (p : ℕ) (b : Bool) → (p == x) ≡ b → (is_above l x p ≡ true → depth_in l x < depth_in l p) → (b || is_above l x p) ≡ true → depth_in l x < suc (depth_in l p)
  in_line_depth p true same later e = let is = ap (depth_in l) ((Decides-eqb p x).0 same) in omega (arith, is)
  in_line_depth p false other later e = let less = later e in omega (arith, less)

  depth_by : (t : ℕ) (o : Option TxnId) → parent_in l t ≡ o → ((p : TxnId) → parent_in l t ≡ Some p → is_above l x p.0 ≡ true → depth_in l x < depth_in l p.0) → is_above l x t ≡ true → depth_in l x < depth_in l t
  depth_by t None none later e = let no : true ≡ false = sym e ∙ above-none l t x none in cc
  depth_by t (Some p) has later e =
      let deep = deeper t p has in
      let less = in_line_depth p.0 (p.0 == x) refl (later p has) (sym (above-parent l t p x has deep) ∙ e) in
      omega (arith, deep, less)

  depth_to : (n t : ℕ) → depth_in l t ≡ n → is_above l x t ≡ true → depth_in l x < depth_in l t
  depth_to zero t deep e = depth_by t (parent_in l t) refl (λ p has above. let more = deeper t p has in absurd (omega (arith, deep, more))) e
  depth_to (suc n) t deep e = depth_by t (parent_in l t) refl (λ p has above. let more = deeper t p has in depth_to n p.0 (omega (arith, deep, more)) above) e

  pub above-depth : (t : ℕ) → is_above l x t ≡ true → depth_in l x < depth_in l t
  above-depth t e = depth_to (depth_in l t) t refl e

pub above-line : (l : Lineage) (x t : ℕ) → is_above l x t ≡ true → is_in_line l x t ≡ true
above-line l x t e = or_right (t == x) (is_above l x t) e

-- a new child of a parent, where neither the child nor its children were known
module _ (l new : Lineage) (t : ℕ) (p : TxnId) (mid : List Entry) (wf : IsWellFounded l) (free : (get_or l.entries t unknown).is_known ≡ false) (other : p.0 ≢ t)
    (has_p : p.0 < length mid) (has_t : t < length mid) (same : (k : ℕ) → get_or mid k unknown ≡ get_or l.entries k unknown)
    (e : Entry) (entry : e ≡ get_or mid p.0 unknown) (deep : ℕ) (child-depth : deep ≡ suc (depth_in l p.0)) (jump : ℕ) (jump-line : is_in_line l jump p.0 ≡ true)
    (is : new.entries ≡ set (set mid p.0 (record { parent = e.parent; depth = e.depth; jump = e.jump; is_known = true })) t (record { parent = Some p; depth = deep; jump = jump; is_known = true })) where
  abbrev above : Entry
  above = record { parent = e.parent; depth = e.depth; jump = e.jump; is_known = true }

  abbrev child : Entry
  child = record { parent = Some p; depth = deep; jump = jump; is_known = true }

  e-parent : e.parent ≡ parent_in l p.0
  e-parent = ap (λ (x : Entry). x.parent) (entry ∙ same p.0)

  e-depth : e.depth ≡ depth_in l p.0
  e-depth = ap (λ (x : Entry). x.depth) (entry ∙ same p.0)

  e-jump : e.jump ≡ jump_in l p.0
  e-jump = ap (λ (x : Entry). x.jump) (entry ∙ same p.0)

  at-child : get_or new.entries t unknown ≡ child
  at-child =
      let long : length mid ≡ length (set mid p.0 above) = sym (length-set mid p.0 above) in
      ap (λ (es : List Entry). get_or es t unknown) is ∙ get_or-set_same (set mid p.0 above) t child unknown (omega (arith, long, has_t))

  at-mid : (u : ℕ) → u ≢ t → get_or new.entries u unknown ≡ get_or (set mid p.0 above) u unknown
  at-mid u off = ap (λ (es : List Entry). get_or es u unknown) is ∙ get_or-set_other (set mid p.0 above) t u child unknown off

  at-parent : get_or new.entries p.0 unknown ≡ above
  at-parent = at-mid p.0 other ∙ get_or-set_same mid p.0 above unknown has_p

  at-other : (u : ℕ) → u ≢ t → u ≢ p.0 → get_or new.entries u unknown ≡ get_or l.entries u unknown
  at-other u off away = at-mid u off ∙ get_or-set_other mid p.0 u above unknown away ∙ same u

  parent-other : (u : ℕ) → u ≢ t → parent_in new u ≡ parent_in l u
  parent-other u off = elim (cases_eq u p.0) [
    | inl at ↦ ap (parent_in new) at ∙ ap (λ (x : Entry). x.parent) at-parent ∙ e-parent ∙ ap (parent_in l) (sym at)
    | inr away ↦ ap (λ (x : Entry). x.parent) (at-other u off away)
  ]

  depth-other : (u : ℕ) → u ≢ t → depth_in new u ≡ depth_in l u
  depth-other u off = elim (cases_eq u p.0) [
    | inl at ↦ ap (depth_in new) at ∙ ap (λ (x : Entry). x.depth) at-parent ∙ e-depth ∙ ap (depth_in l) (sym at)
    | inr away ↦ ap (λ (x : Entry). x.depth) (at-other u off away)
  ]

  jump-other : (u : ℕ) → u ≢ t → jump_in new u ≡ jump_in l u
  jump-other u off = elim (cases_eq u p.0) [
    | inl at ↦ ap (jump_in new) at ∙ ap (λ (x : Entry). x.jump) at-parent ∙ e-jump ∙ ap (jump_in l) (sym at)
    | inr away ↦ ap (λ (x : Entry). x.jump) (at-other u off away)
  ]

  known-more : (u : ℕ) → (get_or l.entries u unknown).is_known ≡ true → (get_or new.entries u unknown).is_known ≡ true
  known-more u before = elim (cases_eq u t) [
    | inl at ↦ ap (λ k. (get_or new.entries k unknown).is_known) at ∙ ap (λ (x : Entry). x.is_known) at-child
    | inr off ↦ elim (cases_eq u p.0) [
      | inl at ↦ ap (λ k. (get_or new.entries k unknown).is_known) at ∙ ap (λ (x : Entry). x.is_known) at-parent
      | inr away ↦ ap (λ (x : Entry). x.is_known) (at-other u off away) ∙ before
    ]
  ]

  orphan_by : (o : Option TxnId) → parent_in l t ≡ o → parent_in l t ≡ None
  orphan_by None e = e
  orphan_by (Some q) e = let no : true ≡ false = sym (wf.has_parent t q e) ∙ free in cc

  orphan : parent_in l t ≡ None
  orphan = orphan_by (parent_in l t) refl

  childless : (u : ℕ) (q : TxnId) → parent_in l u ≡ Some q → q.0 ≢ t
  childless u q e at = let no : true ≡ false = sym (wf.is_parent u q e) ∙ ap (λ k. (get_or l.entries k unknown).is_known) at ∙ free in cc

  is-parent : (u : ℕ) (q : TxnId) → u ≡ t → parent_in new u ≡ Some q → p ≡ q
  is-parent u q at e = let found : Some p ≡ Some q = sym (ap (parent_in new) at ∙ ap (λ (x : Entry). x.parent) at-child) ∙ e in cc

  same-chain : (n : ℕ) (o : Option TxnId) → ((q : TxnId) → o ≡ Some q → q.0 ≢ t) → ancestors_from n (parent_in new) o ≡ ancestors_from n (parent_in l) o
  same-chain n None off = refl
  same-chain zero (Some q) off = refl
  same-chain (suc n) (Some q) off =
      ap (λ o. q ∷ ancestors_from n (parent_in new) o) (parent-other q.0 (off q refl))
      ∙ ap (λ (chain : List TxnId). q ∷ chain) (same-chain n (parent_in l q.0) (λ r e. childless q.0 r e))

  same-above : (u v : ℕ) → v ≢ t → is_above new u v ≡ is_above l u v
  same-above u v off =
      (λ i. list_any (λ a. a.0 == u) (ancestors_from (depth-other v off i) (parent_in new) (parent-other v off i)))
      ∙ ap (list_any (λ a. a.0 == u)) (same-chain (depth_in l v) (parent_in l v) (λ q e. childless v q e))

  only-itself : (a b c : Bool) → b ≡ false → (a || b) ≡ true → (a || c) ≡ true
  only-itself true b c none e = refl
  only-itself false b c none e = let no : true ≡ false = sym e ∙ none in cc

  pub still-more : IsStill l new
  still-more u v e = elim (cases_eq v t) [
    | inl at ↦ only-itself (v == u) (is_above l u v) (is_above new u v) (above-none l v u (ap (parent_in l) at ∙ orphan)) e
    | inr off ↦ ap (λ b. (v == u) || b) (same-above u v off) ∙ e
  ]

  pub well-founded-more : new.most ≡ l.most + 1 → IsWellFounded new
  well-founded-more more = record {
    deeper = λ u q e. elim (cases_eq u t) [
      | inl at ↦ ap (depth_in new) at ∙ ap (λ (x : Entry). x.depth) at-child ∙ child-depth ∙ ap suc (sym (depth-other p.0 other)) ∙ ap (λ (x : TxnId). suc (depth_in new x.0)) (is-parent u q at e)
      | inr off ↦ let before = sym (parent-other u off) ∙ e in depth-other u off ∙ wf.deeper u q before ∙ ap suc (sym (depth-other q.0 (childless u q before)))
    ];
    shallow = λ u. elim (cases_eq u t) [
      | inl at ↦ let deep = ap (depth_in new) at ∙ ap (λ (x : Entry). x.depth) at-child ∙ child-depth in let low = wf.shallow p.0 in omega (arith, deep, low, more)
      | inr off ↦ let deep = depth-other u off in let low = wf.shallow u in omega (arith, deep, low, more)
    ];
    jumps = λ u q e. elim (cases_eq u t) [
      | inl at ↦
          subst (λ (v : ℕ). is_above new (jump_in new v) v ≡ true) (sym at)
          (ap (λ (x : Entry). is_above new x.jump t) at-child ∙ above-parent new t p jump (ap (λ (x : Entry). x.parent) at-child) (ap (λ (x : Entry). x.depth) at-child ∙ child-depth ∙ ap suc (sym (depth-other p.0 other))) ∙ still-more jump p.0 jump-line)
      | inr off ↦ ap (λ j. is_above new j u) (jump-other u off) ∙ same-above (jump_in l u) u off ∙ wf.jumps u q (sym (parent-other u off) ∙ e)
    ];
    is_parent = λ u q e. elim (cases_eq u t) [
      | inl at ↦ ap (λ (x : TxnId). (get_or new.entries x.0 unknown).is_known) (sym (is-parent u q at e)) ∙ ap (λ (x : Entry). x.is_known) at-parent
      | inr off ↦ known-more q.0 (wf.is_parent u q (sym (parent-other u off) ∙ e))
    ];
    has_parent = λ u q e. elim (cases_eq u t) [
      | inl at ↦ ap (λ k. (get_or new.entries k unknown).is_known) at ∙ ap (λ (x : Entry). x.is_known) at-child
      | inr off ↦ known-more u (wf.has_parent u q (sym (parent-other u off) ∙ e))
    ];
  }

-- who has t in its line has t's parent there
line_by : (b c d : Bool) → (b ≡ true → d ≡ true) → (b ≡ false → c ≡ true → d ≡ true) → (b || c) ≡ true → d ≡ true
line_by true c d own other e = own refl
line_by false c d own other e = other refl e

module _ (l : Lineage) (deeper : (t : ℕ) (p : TxnId) → parent_in l t ≡ Some p → depth_in l t ≡ suc (depth_in l p.0)) (t : ℕ) (u : TxnId) (parent : parent_in l t ≡ Some u) where
  above_by : (h : ℕ) (o : Option TxnId) → parent_in l h ≡ o → ((p : TxnId) → parent_in l h ≡ Some p → is_in_line l t p.0 ≡ true → is_in_line l u.0 p.0 ≡ true) → is_above l t h ≡ true → is_in_line l u.0 h ≡ true
  above_by h None none later e = let no : true ≡ false = sym e ∙ above-none l h t none in cc
  above_by h (Some p) has later e = let deep = deeper h p has in line-up l h p u.0 has deep (later p has (sym (above-parent l h p t has deep) ∙ e))

  one_up : (h : ℕ) → ((p : TxnId) → parent_in l h ≡ Some p → is_in_line l t p.0 ≡ true → is_in_line l u.0 p.0 ≡ true) → is_in_line l t h ≡ true → is_in_line l u.0 h ≡ true
  one_up h later e =
      line_by (h == t) (is_above l t h) (is_in_line l u.0 h)
      (λ same. let has = ap (parent_in l) ((Decides-eqb h t).0 same) ∙ parent in line-up l h u u.0 has (deeper h u has) (ap (λ b. b || is_above l u.0 u.0) ((Decides-eqb u.0 u.0).1 refl)))
      (λ other above. above_by h (parent_in l h) refl later above) e

  parent_above : (n h : ℕ) → depth_in l h ≡ n → is_in_line l t h ≡ true → is_in_line l u.0 h ≡ true
  parent_above zero h deep e = one_up h (λ p has line. let more = deeper h p has in absurd (omega (arith, deep, more))) e
  parent_above (suc n) h deep e = one_up h (λ p has line. let more = deeper h p has in parent_above n p.0 (omega (arith, deep, more)) line) e

  pub line-parent : (h : ℕ) → is_in_line l t h ≡ true → is_in_line l u.0 h ≡ true
  line-parent h e = parent_above (depth_in l h) h refl e

-- ancestors by parents that are remembered are ancestors
above_all : (n k : ℕ) (f g : ℕ → Option TxnId) (o x : Option TxnId) (u : ℕ) → n ≤ k → ((t : ℕ) (p : TxnId) → f t ≡ Some p → g t ≡ Some p) → ((p : TxnId) → o ≡ Some p → x ≡ Some p) → list_any (λ a. a.0 == u) (ancestors_from n f o) ≡ true → list_any (λ a. a.0 == u) (ancestors_from k g x) ≡ true
above_all n k f g None x u le from same e = cc
above_all zero k f g (Some p) x u le from same e = cc
above_all (suc n) zero f g (Some p) x u le from same e = absurd (omega (arith, le))
above_all (suc n) (suc k) f g (Some p) x u le from same e =
    subst (λ (o : Option TxnId). list_any (λ a. a.0 == u) (ancestors_from (suc k) g o) ≡ true) (sym (same p refl))
    (or_later (p.0 == u) (list_any (λ a. a.0 == u) (ancestors_from n f (f p.0))) (list_any (λ a. a.0 == u) (ancestors_from k g (g p.0))) (above_all n k f g (f p.0) (g p.0) u (omega (arith, le)) from (from p.0)) e)

pub exempt-all : (l : Lineage) (t k : ℕ) (parent : ℕ → Option TxnId) (exempt : ℕ → Bool) → l.most ≤ k → ((u : ℕ) (p : TxnId) → parent_in l u ≡ Some p → parent u ≡ Some p)
    → ((u : ℕ) → list_any (λ a. a.0 == u) (ancestors_from k parent (parent t)) ≡ true → exempt u ≡ true) → AreExempt l t exempt
exempt-all l t k parent exempt most right from u e = from u (above_all l.most k (parent_in l) parent (parent_in l t) (parent t) u most right (right t) e)
