-- The search for conflicting operations agrees with the rules.
use Rattle.std.proofs.Common.{if◌then◌else◌, ◌≡◌, ℕ, ◌+◌, Bool, true, false, not, ◌&&◌, ◌||◌, ◌==◌, cond, List, [], ◌∷◌, map, filter, Some, None, refl, sym, ap, ◌∙◌}
use Rattle.std.specs.List.{list_any, position_from}
use Rattle.std.proofs.lemmas.Bool.{eqb-true}
use Rattle.acta_table.specs.declared.model.Parts.{Parts}
use Rattle.acta_table.specs.declared.event.ObjId.{ObjId}
use Rattle.acta_table.specs.declared.event.Op.{Op}
use Rattle.acta_table.specs.declared.event.TxnId.{TxnId}
use Rattle.acta_table.specs.declared.event.Event.{Event}
use Rattle.acta_table.specs.declared.event.Event.TheVariants.{Begin, Spawn, Split, Join, Delegate, Form, Operate, Commit, Abort, Permit}
use Rattle.acta_table.specs.Fates.{is_open}
use Rattle.acta_table.specs.Numbered.{first_number, ascending}
use Rattle.acta_table.proofs.AscendingSets.{in-ascending, any-number}
use Rattle.acta_sets.specs.declared.held_op.HeldOp.{HeldOp}
use Rattle.acta_sets.specs.Operations.{ops_conflict, is_among, is_of_others, is_against, holders_against, is_against_but}
use Rattle.acta_values.specs.Conflicts.{is_well_formed}
use Rattle.acta_axioms.specs.inside.Wanted.{edges_wanted}
use Rattle.acta_axioms.proofs.Conflicts.{suits-conflicts, ill-conflicts}
use Rattle.acta_machine.specs.Summary.{Summary}
use Rattle.acta_machine.specs.Changes.{edges_due}
use Rattle.acta_machine.specs.Conflicts.{stands_against, conflicting_holders}
use Rattle.acta_machine.specs.Families.{exempt}
use Rattle.acta_machine.specs.inside.Exempt.{is_exempt, AreExempt, exempt_numbers}

by-number : (ts : List TxnId) (u : TxnId) → list_any (λ n. n == u.0) (map (λ t. t.0) ts) ≡ is_among ts u
by-number [] u = refl
by-number (t ∷ ts) u = ap (λ b. (t.0 == u.0) || b) (by-number ts u)

-- a transaction is in the set of exempt ones exactly if it is exempt
pub in-exempt : {A : Type 0} (m : Parts A) (s : Summary) (t u : ℕ) → list_any (λ k. k == u) (exempt_numbers m s t) ≡ list_any (λ a. a.0 == u) (exempt m s t)
in-exempt m s t u = sym (any-number u (exempt_numbers m s t)) ∙ in-ascending u (map (λ x. x.0) (exempt m s t)) ∙ by-number (exempt m s t) (record { 0 = u })

-- the conflict test in the table's terms, for a well-formed operation
on_object : (x a p q c b : Bool) → (b ≡ true → p ≡ q) → (x && not (a || p) && b && c) ≡ ((x && not a && not q) && b && c)
on_object true true p q c b same = refl
on_object true false p q c true same = ap (λ d. not d && true && c) (same refl)
on_object true false true true c false same = refl
on_object true false true false c false same = refl
on_object true false false true c false same = refl
on_object true false false false c false same = refl
on_object false a p q c b same = refl

stands-but : {A : Type 0} (m : Parts A) (s : Summary) (t : ℕ) (ob : ObjId) (op : Op) (i : HeldOp) → is_well_formed m ob.0 op ≡ true → is_against_but t (is_exempt m s t ob.0) ob.0 op i ≡ stands_against m s t ob op i
stands-but m s t ob op i is =
    on_object (is_open i.fate && not (i.holder.0 == t)) (is_among (exempt m s t) i.holder) (s.permits i.holder.0 t ob.0) (s.permits i.holder.0 t i.ob.0) (ops_conflict i.op op) (i.ob.0 == ob.0)
    (λ same. ap (s.permits i.holder.0 t) (sym (eqb-true i.ob.0 ob.0 same)))
    ∙ ap (λ c. is_of_others t (exempt m s t) s.permits i && (i.ob.0 == ob.0) && c) (suits-conflicts m ob.0 i.op op is)

none_and : (a : Bool) → (a && false) ≡ false
none_and true = refl
none_and false = refl

ill_stands : {A : Type 0} (m : Parts A) (s : Summary) (t : ℕ) (ob : ObjId) (op : Op) (i : HeldOp) → is_well_formed m ob.0 op ≡ false → stands_against m s t ob op i ≡ false
ill_stands m s t ob op i is =
    ap (λ b. is_of_others t (exempt m s t) s.permits i && (i.ob.0 == ob.0) && b) (ill-conflicts m ob.0 i.op op is) ∙ none_and (is_of_others t (exempt m s t) s.permits i && (i.ob.0 == ob.0))

-- the conflict test by the set of exempt transactions
against_same : {A : Type 0} (m : Parts A) (s : Summary) (t : ℕ) (ob : ObjId) (op : Op) (keys : List ℕ) → AreExempt m s t ob.0 keys → is_against t keys ob.0 op ≡ is_against_but t (is_exempt m s t ob.0) ob.0 op
against_same m s t ob op keys same = λ n i. is_open i.fate && not (i.holder.0 == t) && not (same i.holder.0 n) && (i.ob.0 == ob.0) && ops_conflict i.op op

-- the first conflicting operation
first-is : {A : Type 0} (m : Parts A) (s : Summary) (t : ℕ) (ob : ObjId) (op : Op) → is_well_formed m ob.0 op ≡ true →
    first_number (is_against_but t (is_exempt m s t ob.0) ob.0 op) s.operations ≡ first_number (stands_against m s t ob op) s.operations
first-is m s t ob op is = ap (λ (test : HeldOp → Bool). first_number test s.operations) (λ x i. stands-but m s t ob op i is x)

none_first : (test : HeldOp → Bool) (n : ℕ) (xs : List HeldOp) → ((i : HeldOp) → test i ≡ false) → None ≡ position_from test n xs
none_first test n [] none = refl
none_first test n (i ∷ xs) none = none_first test (n + 1) xs none ∙ ap (λ b. cond b (Some n) (position_from test (n + 1) xs)) (sym (none i))

no-first : {A : Type 0} (m : Parts A) (s : Summary) (t : ℕ) (ob : ObjId) (op : Op) → is_well_formed m ob.0 op ≡ false → None ≡ first_number (stands_against m s t ob op) s.operations
no-first m s t ob op is = none_first (stands_against m s t ob op) 1 s.operations (λ i. ill_stands m s t ob op i is)

pub first-but : {A : Type 0} (m : Parts A) (s : Summary) (t : ℕ) (ob : ObjId) (op : Op)
    → (if is_well_formed m ob.0 op then first_number (is_against_but t (is_exempt m s t ob.0) ob.0 op) s.operations else None) ≡ first_number (stands_against m s t ob op) s.operations
first-but m s t ob op = reported (is_well_formed m ob.0 op) (first-is m s t ob op) (no-first m s t ob op)
  where
    reported : (b : Bool) → (b ≡ true → first_number (is_against_but t (is_exempt m s t ob.0) ob.0 op) s.operations ≡ first_number (stands_against m s t ob op) s.operations)
        → (b ≡ false → None ≡ first_number (stands_against m s t ob op) s.operations)
        → (if b then first_number (is_against_but t (is_exempt m s t ob.0) ob.0 op) s.operations else None) ≡ first_number (stands_against m s t ob op) s.operations
    reported true is ill = is refl
    reported false is ill = ill refl

pub first-tells : {A : Type 0} (m : Parts A) (s : Summary) (t : ℕ) (ob : ObjId) (op : Op) (keys : List ℕ) → AreExempt m s t ob.0 keys
    → (if is_well_formed m ob.0 op then first_number (is_against t keys ob.0 op) s.operations else None) ≡ first_number (stands_against m s t ob op) s.operations
first-tells m s t ob op keys same =
    ap (λ (test : HeldOp → Bool). if is_well_formed m ob.0 op then first_number test s.operations else None) (against_same m s t ob op keys same) ∙ first-but m s t ob op

-- the conflicting holders
conflicting_holders-are : {A : Type 0} (m : Parts A) (s : Summary) (t : ℕ) (ob : ObjId) (op : Op) → is_well_formed m ob.0 op ≡ true →
    ascending (map (λ (i : HeldOp). i.holder.0) (filter (is_against_but t (is_exempt m s t ob.0) ob.0 op) s.operations)) ≡ conflicting_holders m s t ob op
conflicting_holders-are m s t ob op is =
    ap (λ (test : HeldOp → Bool). ascending (map (λ (i : HeldOp). i.holder.0) (filter test s.operations))) (λ x i. stands-but m s t ob op i is x)

none_held : (test : HeldOp → Bool) (xs : List HeldOp) → ((i : HeldOp) → test i ≡ false) → [] ≡ filter test xs
none_held test [] none = refl
none_held test (i ∷ xs) none = none_held test xs none ∙ ap (λ b. cond b (i ∷ filter test xs) (filter test xs)) (sym (none i))

no-conflicting_holders : {A : Type 0} (m : Parts A) (s : Summary) (t : ℕ) (ob : ObjId) (op : Op) → is_well_formed m ob.0 op ≡ false → [] ≡ conflicting_holders m s t ob op
no-conflicting_holders m s t ob op is = ap (λ xs. ascending (map (λ (i : HeldOp). i.holder.0) xs)) (none_held (stands_against m s t ob op) s.operations (λ i. ill_stands m s t ob op i is))

pub conflicting_holders-but : {A : Type 0} (m : Parts A) (s : Summary) (t : ℕ) (ob : ObjId) (op : Op)
    → (if is_well_formed m ob.0 op then ascending (map (λ (i : HeldOp). i.holder.0) (filter (is_against_but t (is_exempt m s t ob.0) ob.0 op) s.operations)) else []) ≡ conflicting_holders m s t ob op
conflicting_holders-but m s t ob op = reported (is_well_formed m ob.0 op) (conflicting_holders-are m s t ob op) (no-conflicting_holders m s t ob op)
  where
    reported : (b : Bool) → (b ≡ true → ascending (map (λ (i : HeldOp). i.holder.0) (filter (is_against_but t (is_exempt m s t ob.0) ob.0 op) s.operations)) ≡ conflicting_holders m s t ob op) → (b ≡ false → [] ≡ conflicting_holders m s t ob op)
        → (if b then ascending (map (λ (i : HeldOp). i.holder.0) (filter (is_against_but t (is_exempt m s t ob.0) ob.0 op) s.operations)) else []) ≡ conflicting_holders m s t ob op
    reported true is ill = is refl
    reported false is ill = ill refl

pub conflicting_holders-tell : {A : Type 0} (m : Parts A) (s : Summary) (t : ℕ) (ob : ObjId) (op : Op) (keys : List ℕ) → AreExempt m s t ob.0 keys
    → (if is_well_formed m ob.0 op then holders_against t keys ob.0 op s.operations else []) ≡ conflicting_holders m s t ob op
conflicting_holders-tell m s t ob op keys same =
    ap (λ (test : HeldOp → Bool). if is_well_formed m ob.0 op then ascending (map (λ (i : HeldOp). i.holder.0) (filter test s.operations)) else []) (against_same m s t ob op keys same) ∙ conflicting_holders-but m s t ob op

-- the edges of an event that is no operation
pub wanted-due : {A : Type 0} (m : Parts A) (s : Summary) (e : Event A) → ((t : TxnId) (ob : ObjId) (op : Op) → e ≡ Operate t ob op → ⊥) → edges_wanted m.classes e ≡ edges_due m s e
wanted-due m s (Begin t class) other = refl
wanted-due m s (Spawn t c class) other = refl
wanted-due m s (Split t u class ops) other = refl
wanted-due m s (Join t u) other = refl
wanted-due m s (Delegate t u ops) other = refl
wanted-due m s (Form kind j i) other = refl
wanted-due m s (Operate t ob op) other = absurd (other t ob op refl)
wanted-due m s (Commit t) other = refl
wanted-due m s (Abort t) other = refl
wanted-due m s (Permit t u ob) other = refl
