-- Invariant: the holder of every operation in progress is in progress.
use Rattle.std.proofs.Common.{◌≡◌, ℕ, ◌+◌, ◌==◌, Bool, true, false, ◌&&◌, ◌||◌, not, List, [], ◌∷◌, ◌++◌, map, refl, ap, eq-eqb, inl, inr}
use Rattle.std.specs.Prelude.{if◌then◌else◌}
use Rattle.std.specs.List.{list_all}
use Rattle.std.proofs.lemmas.Bool.{ne_eqb, cases_eq}
use Rattle.acta_table.specs.declared.answer.Fate.{Fate}
use Rattle.acta_table.specs.declared.answer.Fate.TheVariants.{InProgress, Committed, Aborted}
use Rattle.acta_table.specs.declared.answer.Status.{Status}
use Rattle.acta_table.specs.declared.answer.Status.TheVariants.{InProgress as on_its_way}
use Rattle.acta_table.specs.declared.event.ObjId.{ObjId}
use Rattle.acta_table.specs.declared.event.Op.{Op}
use Rattle.acta_table.specs.declared.event.OpNo.{OpNo}
use Rattle.acta_table.specs.declared.event.TxnId.{TxnId}
use Rattle.acta_table.specs.Sets.{is_named}
use Rattle.acta_table.specs.Fates.{is_open}
use Rattle.acta_deps.specs.Statuses.{is_in_progress, with_status}
use Rattle.acta_sets.specs.declared.held_op.HeldOp.{HeldOp}
use Rattle.acta_sets.specs.Operations.{transferred_op, transferred, ended_op, ended, moved_from, moved, added}
use Rattle.acta_machine.specs.Places.{is_held_well}

both : (a b : Bool) → (a && b) ≡ true → (a ≡ true) × (b ≡ true)
both true b e = (refl, e)
both false b e = cc

-- a property of each item carries over to the items made from them
all-map : (p q : HeldOp → Bool) (f : HeldOp → HeldOp) → ((i : HeldOp) → p i ≡ true → q (f i) ≡ true) → (items : List HeldOp) → list_all p items ≡ true → list_all q (map f items) ≡ true
all-map p q f each [] all = refl
all-map p q f each (i ∷ items) all =
    let parts = both (p i) (list_all p items) all in
    λ x. each i parts.0 x && all-map p q f each items parts.1 x

pub all-kept : (p q : HeldOp → Bool) → ((i : HeldOp) → p i ≡ true → q i ≡ true) → (items : List HeldOp) → list_all p items ≡ true → list_all q items ≡ true
all-kept p q each [] all = refl
all-kept p q each (i ∷ items) all =
    let parts = both (p i) (list_all p items) all in
    λ x. each i parts.0 x && all-kept p q each items parts.1 x

-- an operation in progress keeps the invariant if its holder is still in progress
stays : (fate : Fate) (a b : Bool) → (a ≡ true → b ≡ true) → (not (is_open fate) || a) ≡ true → (not (is_open fate) || b) ≡ true
stays InProgress a b later e = later e
stays Committed a b later e = refl
stays Aborted a b later e = refl

-- t starts
still : (status : ℕ → Status) (t u : ℕ) → is_in_progress (status u) ≡ true → is_in_progress (with_status status t on_its_way u) ≡ true
still status t u on = of (u == t)
  where
    of : (b : Bool) → is_in_progress (if b then on_its_way else status u) ≡ true
    of true = refl
    of false = on

pub well-started : (status : ℕ → Status) (t : ℕ) (items : List HeldOp) → list_all (is_held_well status) items ≡ true → list_all (is_held_well (with_status status t on_its_way)) items ≡ true
well-started status t items all =
    all-kept (is_held_well status) (is_held_well (with_status status t on_its_way))
    (λ i. stays i.fate (is_in_progress (status i.holder.0)) (is_in_progress (with_status status t on_its_way i.holder.0)) (still status t i.holder.0)) items all

-- u, in progress, gets operations
well-moved : (status : ℕ → Status) (n : ℕ) (ops : List OpNo) (u : TxnId) → is_in_progress (status u.0) ≡ true → (items : List HeldOp) → list_all (is_held_well status) items ≡ true → list_all (is_held_well status) (moved_from n ops u items) ≡ true
well-moved status n ops u on [] all = refl
well-moved status n ops u on (i ∷ items) all =
    let parts = both (is_held_well status i) (list_all (is_held_well status) items) all in
    λ x. one (is_named ops n) parts.0 x && well-moved status (n + 1) ops u on items parts.1 x
  where
    either : (a b : Bool) → b ≡ true → (a || b) ≡ true
    either true b e = refl
    either false b e = e

    one : (b : Bool) → is_held_well status i ≡ true → is_held_well status (if b then record i { holder = u } else i) ≡ true
    one true e = either (not (is_open i.fate)) (is_in_progress (status u.0)) on
    one false e = e

pub well-given : (status : ℕ → Status) (ops : List OpNo) (u : TxnId) → is_in_progress (status u.0) ≡ true → (items : List HeldOp) → list_all (is_held_well status) items ≡ true → list_all (is_held_well status) (moved ops u items) ≡ true
well-given status ops u on items all = well-moved status 1 ops u on items all

-- t ends, and u, in progress, inherits its operations
one-transferred : (status : ℕ → Status) (t : ℕ) (x : Status) (u : TxnId) → is_in_progress (with_status status t x u.0) ≡ true → (ob : ObjId) (op : Op) (v : TxnId) (fate : Fate) →
    is_held_well status (record { ob = ob; op = op; holder = v; fate = fate }) ≡ true → is_held_well (with_status status t x) (transferred_op t u (record { ob = ob; op = op; holder = v; fate = fate })) ≡ true
one-transferred status t x u on ob op v InProgress e = elim (cases_eq v.0 t) [ inl same ↦ rw (eq-eqb v.0 t same) on | inr ne ↦ rw (ne_eqb v.0 t ne, ne_eqb v.0 t ne) e ]
one-transferred status t x u on ob op v Committed e = elim (cases_eq v.0 t) [ inl same ↦ rw (eq-eqb v.0 t same) refl | inr ne ↦ rw (ne_eqb v.0 t ne) refl ]
one-transferred status t x u on ob op v Aborted e = elim (cases_eq v.0 t) [ inl same ↦ rw (eq-eqb v.0 t same) refl | inr ne ↦ rw (ne_eqb v.0 t ne) refl ]

pub well-transferred : (status : ℕ → Status) (t : ℕ) (x : Status) (u : TxnId) → is_in_progress (with_status status t x u.0) ≡ true → (items : List HeldOp) → list_all (is_held_well status) items ≡ true → list_all (is_held_well (with_status status t x)) (transferred t u items) ≡ true
well-transferred status t x u on items all =
    all-map (is_held_well status) (is_held_well (with_status status t x)) (transferred_op t u) (λ i. one-transferred status t x u on i.ob i.op i.holder i.fate) items all

-- t ends, and so do its operations
one-ended : (status : ℕ → Status) (t : ℕ) (x : Status) (end : Fate) → is_open end ≡ false → (ob : ObjId) (op : Op) (v : TxnId) (fate : Fate) →
    is_held_well status (record { ob = ob; op = op; holder = v; fate = fate }) ≡ true → is_held_well (with_status status t x) (ended_op t end (record { ob = ob; op = op; holder = v; fate = fate })) ≡ true
one-ended status t x end closed ob op v InProgress e = elim (cases_eq v.0 t) [ inl same ↦ rw (eq-eqb v.0 t same) (ap (λ b. not b || is_in_progress (with_status status t x v.0)) closed) | inr ne ↦ rw (ne_eqb v.0 t ne, ne_eqb v.0 t ne) e ]
one-ended status t x end closed ob op v Committed e = elim (cases_eq v.0 t) [ inl same ↦ rw (eq-eqb v.0 t same) refl | inr ne ↦ rw (ne_eqb v.0 t ne) refl ]
one-ended status t x end closed ob op v Aborted e = elim (cases_eq v.0 t) [ inl same ↦ rw (eq-eqb v.0 t same) refl | inr ne ↦ rw (ne_eqb v.0 t ne) refl ]

pub well-ended : (status : ℕ → Status) (t : ℕ) (x : Status) (end : Fate) → is_open end ≡ false → (items : List HeldOp) → list_all (is_held_well status) items ≡ true → list_all (is_held_well (with_status status t x)) (ended t end items) ≡ true
well-ended status t x end closed items all =
    all-map (is_held_well status) (is_held_well (with_status status t x)) (ended_op t end) (λ i. one-ended status t x end closed i.ob i.op i.holder i.fate) items all

-- t, in progress, does an operation
all-more : (p : HeldOp → Bool) (items : List HeldOp) (i : HeldOp) → list_all p items ≡ true → p i ≡ true → list_all p (items ++ i ∷ []) ≡ true
all-more p [] i all here = ap (λ b. b && true) here
all-more p (k ∷ items) i all here =
    let parts = both (p k) (list_all p items) all in
    λ x. parts.0 x && all-more p items i parts.1 here x

pub well-added : (status : ℕ → Status) (t : TxnId) (ob : ObjId) (op : Op) → is_in_progress (status t.0) ≡ true → (items : List HeldOp) → list_all (is_held_well status) items ≡ true → list_all (is_held_well status) (added items t ob op) ≡ true
well-added status t ob op on items all = all-more (is_held_well status) items (record { ob = ob; op = op; holder = t; fate = InProgress }) all on
