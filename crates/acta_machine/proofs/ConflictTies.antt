-- The edges of an operation by the table are those by places. They connect its transaction to others in progress, and
-- their formulas are true.
use Rattle.std.proofs.Common.{◌≡◌, ℕ, Bool, true, false, ◌&&◌, ◌||◌, not, ◌==◌, List, [], ◌∷◌, map, filter, Option, Some, None, is_some, refl, sym, ap, ◌∙◌}
use Rattle.std.specs.Prelude.{option_and_then, if◌then◌else◌}
use Rattle.std.specs.List.{list_any, list_all}
use Rattle.std.specs.Option.{option_map_or}
use Rattle.std.proofs.lemmas.Bool.{true≢false}
use Rattle.acta_table.specs.declared.answer.Status.{Status}
use Rattle.acta_table.specs.declared.dep.Dep.{Dep}
use Rattle.acta_table.specs.declared.dep.Dep.TheVariants.{Cd, Scd, Ad, Wd, Td, Ed, Cmd, Bd, Sd, Bcd, Bad, Wcd}
use Rattle.acta_table.specs.declared.event.Event.TheVariants.{Operate}
use Rattle.acta_table.specs.declared.event.Kept.{Kept}
use Rattle.acta_table.specs.declared.event.ObjId.{ObjId}
use Rattle.acta_table.specs.declared.event.Op.{Op}
use Rattle.acta_table.specs.declared.event.TxnId.{TxnId}
use Rattle.acta_table.specs.declared.model.Class.{Class}
use Rattle.acta_table.specs.declared.model.ModelFault.TheVariants.{BadPolicyKind}
use Rattle.acta_table.specs.declared.model.Parts.{Parts}
use Rattle.acta_table.specs.declared.policy.Policy.{Policy}
use Rattle.acta_table.specs.Classes.{class_at}
use Rattle.acta_table.specs.Dependencies.{all_kinds, is_begin_kind}
use Rattle.acta_table.specs.Faults.{lowest_fault, fault_if}
use Rattle.acta_table.specs.Numbered.{ascending}
use Rattle.acta_table.specs.Policies.{refuses, forms, is_policy_kind, forms_other, is_bad_policy, edges_upon}
use Rattle.acta_table.specs.Fates.{is_open}
use Rattle.acta_axioms.specs.declared.course.Course.{Course}
use Rattle.acta_axioms.specs.History.{end}
use Rattle.acta_axioms.specs.Operations.{Operation, operations, standing}
use Rattle.acta_axioms.specs.Values.{do_conflict}
use Rattle.acta_axioms.specs.Edges.{holders_against, formed_by}
use Rattle.acta_axioms.proofs.ByOperations.{holders-shown}
use Rattle.acta_axioms.proofs.Conflicts.{do_conflict-on}
use Rattle.acta_axioms.proofs.Holders.{all-ascending, all-upon}
use Rattle.acta_deps.specs.Statuses.{is_in_progress}
use Rattle.acta_sets.specs.declared.held_op.HeldOp.{HeldOp}
use Rattle.acta_sets.specs.Operations.{is_among, is_of_others}
use Rattle.acta_machine.specs.Summary.{Summary}
use Rattle.acta_machine.specs.Changes.{summary_of}
use Rattle.acta_machine.specs.Conflicts.{stands_against, conflicting_holders, conflict_edges}
use Rattle.acta_machine.specs.Families.{class_of, exempt}
use Rattle.acta_machine.specs.Places.{ShowsPlaces, held_op, is_held_well, AreHeldWell}
use Rattle.acta_machine.proofs.Broken.{or_none}
use Rattle.acta_machine.proofs.EdgeSteps.{formed-other}
use Rattle.acta_machine.proofs.FamilyTies.{class_of-places}
use Rattle.acta_machine.proofs.Starting.{no_fault, any-at, holds_in}
use Rattle.acta_machine.proofs.ValueTies.{others-places}

and_assoc : (a b c : Bool) → (a && b && c) ≡ (a && (b && c))
and_assoc true b c = refl
and_assoc false b c = refl

-- an operation conflicts by the table exactly if it conflicts by places
pub against-places : {A : Type 0} (m : Parts A) (h : List (Kept A)) → ShowsPlaces m h (summary_of m h) → (t : ℕ) (ob : ObjId) (op : Op) (o : Operation) →
    stands_against m (summary_of m h) t ob op (held_op o (standing m h o)) ≡ (Rattle.acta_axioms.specs.Operations.is_of_others m h t o.object (standing m h o) && ((o.object == ob.0) && do_conflict m ob.0 o.op op))
against-places m h shows t ob op o =
    (λ i. others-places m h shows t o i && (o.object == ob.0) && sym (do_conflict-on m ob.0 o.op op) i)
    ∙ and_assoc (Rattle.acta_axioms.specs.Operations.is_of_others m h t o.object (standing m h o)) (o.object == ob.0) (do_conflict m ob.0 o.op op)

-- the conflicting holders are the same
pub conflicting_holders-places : {A : Type 0} (m : Parts A) (h : List (Kept A)) → ShowsPlaces m h (summary_of m h) → (t : ℕ) (ob : ObjId) (op : Op) → conflicting_holders m (summary_of m h) t ob op ≡ holders_against m h t ob.0 op
conflicting_holders-places m h shows t ob op =
    ap (λ items. ascending (map (λ (i : HeldOp). i.holder.0) (filter (stands_against m (summary_of m h) t ob op) items))) shows.operations
    ∙ sym (ap ascending (holders-shown m h t ob.0 op (λ o. held_op o (standing m h o)) (stands_against m (summary_of m h) t ob op) (λ i. i.holder.0) (against-places m h shows t ob op) (λ o. refl)))

-- and so are the edges formed on them
pub conflict_edges-places : {A : Type 0} (m : Parts A) (h : List (Kept A)) → ShowsPlaces m h (summary_of m h) → (t : TxnId) (ob : ObjId) (op : Op) → conflict_edges m (summary_of m h) t ob op ≡ formed_by m h (Operate t ob op)
conflict_edges-places {A} m h shows t ob op =
    λ i. option_map_or (λ (k : Class A). edges_upon k.policy t (conflicting_holders-places m h shows t.0 ob op i)) (class_of-places m h (summary_of m h) shows t.0 i) []

-- a checked policy forms only kinds that it may
any-kind : (test : Dep → Bool) (kind : Dep) → list_any test all_kinds ≡ false → test kind ≡ false
any-kind test Cd none = any-at test all_kinds 0 none
any-kind test Scd none = any-at test all_kinds 1 none
any-kind test Ad none = any-at test all_kinds 2 none
any-kind test Wd none = any-at test all_kinds 3 none
any-kind test Td none = any-at test all_kinds 4 none
any-kind test Ed none = any-at test all_kinds 5 none
any-kind test Cmd none = any-at test all_kinds 6 none
any-kind test Bd none = any-at test all_kinds 7 none
any-kind test Sd none = any-at test all_kinds 8 none
any-kind test Bcd none = any-at test all_kinds 9 none
any-kind test Bad none = any-at test all_kinds 10 none
any-kind test Wcd none = any-at test all_kinds 11 none

last_false : (a b : Bool) → (a || b) ≡ false → b ≡ false
last_false true b e = cc
last_false false b e = e

allowed : (a b : Bool) → (a && not b) ≡ false → a ≡ true → b ≡ true
allowed true true e is = refl
allowed true false e is = cc
allowed false b e is = cc

not_begin : (kind : Dep) → is_policy_kind kind ≡ true → is_begin_kind kind ≡ false
not_begin Cd is = refl
not_begin Ad is = refl
not_begin Wd is = refl
not_begin Td is = refl
not_begin kind is = absurd (true≢false (sym is))

good-kind : (policy : Policy) → is_bad_policy policy ≡ false → (kind : Dep) → forms policy kind ≡ true → is_begin_kind kind ≡ false
good-kind policy good kind formed =
    not_begin kind (allowed (forms policy kind) (is_policy_kind kind) (any-kind (forms_other policy) kind (last_false (not (refuses policy || list_any (forms policy) all_kinds)) _ good)) formed)

-- no class of a checked model has a bad policy
good-class : {A : Type 0} (m : Parts A) → lowest_fault m ≡ None → (class : ℕ) → option_map_or (λ k. is_bad_policy k.policy) (class_at m class) false ≡ false
good-class m faultless class =
    any-at (λ k. is_bad_policy k.policy) m.classes class (no_fault (list_any (λ k. is_bad_policy k.policy) m.classes) BadPolicyKind (or_none _ (fault_if (list_any (λ k. is_bad_policy k.policy) m.classes) BadPolicyKind) faultless).1)

through-class : {X Y : Type 0} (test : Y → Bool) (f : X → Option Y) → ((x : X) → option_map_or test (f x) false ≡ false) → (o : Option X) → option_map_or test (option_and_then f o) false ≡ false
through-class test f each None = refl
through-class test f each (Some x) = each x

-- holders of conflicting operations are in progress
all-conflicting_holders : (status : ℕ → Status) (test : HeldOp → Bool) → ((i : HeldOp) → test i ≡ true → is_open i.fate ≡ true) → (items : List HeldOp) → list_all (is_held_well status) items ≡ true → list_all (λ u. is_in_progress (status u)) (map (λ (i : HeldOp). i.holder.0) (filter test items)) ≡ true
all-conflicting_holders status test opens [] all = refl
all-conflicting_holders status test opens (i ∷ items) all =
    let parts = both (is_held_well status i) (list_all (is_held_well status) items) all in
    of (test i) refl parts.0 (all-conflicting_holders status test opens items parts.1)
  where
    both : (a b : Bool) → (a && b) ≡ true → (a ≡ true) × (b ≡ true)
    both true b e = (refl, e)
    both false b e = cc

    so : (a on : Bool) → a ≡ true → (not a || on) ≡ true → on ≡ true
    so true on is e = e
    so false on is e = cc

    of : (b : Bool) → test i ≡ b → is_held_well status i ≡ true → list_all (λ u. is_in_progress (status u)) (map (λ (x : HeldOp). x.holder.0) (filter test items)) ≡ true
        → list_all (λ u. is_in_progress (status u)) (map (λ (x : HeldOp). x.holder.0) (if b then i ∷ filter test items else filter test items)) ≡ true
    of true is well later = λ x. so (is_open i.fate) (is_in_progress (status i.holder.0)) (opens i is) well x && later x
    of false is well later = later

first_true : (a b : Bool) → (a && b) ≡ true → a ≡ true
first_true true b e = refl
first_true false b e = cc

pub conflicting_holders-on : {A : Type 0} (m : Parts A) (s : Summary) → AreHeldWell s → (t : ℕ) (ob : ObjId) (op : Op) → list_all (λ u. is_in_progress (s.status u)) (conflicting_holders m s t ob op) ≡ true
conflicting_holders-on m s well t ob op =
    all-ascending (λ u. is_in_progress (s.status u)) (map (λ (i : HeldOp). i.holder.0) (filter (stands_against m s t ob op) s.operations))
    (all-conflicting_holders s.status (stands_against m s t ob op) (λ i against. first_true (is_open i.fate) _ (first_true (is_open i.fate && not (i.holder.0 == t)) _ (first_true (is_open i.fate && not (i.holder.0 == t) && not (is_among (exempt m s t) i.holder)) _ (first_true (is_of_others t (exempt m s t) s.permits i) _ (first_true (is_of_others t (exempt m s t) s.permits i && (i.ob.0 == ob.0)) _ against))))) s.operations well)

-- the formulas of the edges are true while their transactions have not ended
pub holding-conflicts : {A : Type 0} (m : Parts A) (s : Summary) (courses : ℕ → Course) → lowest_fault m ≡ None → AreHeldWell s → (t : TxnId) (ob : ObjId) (op : Op) → is_some (end (courses t.0)) ≡ false
    → ((u : ℕ) → is_in_progress (s.status u) ≡ true → is_some (end (courses u)) ≡ false) → list_all (holds_in courses) (conflict_edges m s t ob op) ≡ true
holding-conflicts {A} m s courses faultless well t ob op t_open opens =
    of_class (class_of m s t.0) (through-class (λ k. is_bad_policy k.policy) (λ c. class_at m c.0) (λ c. good-class m faultless c.0) (s.class t.0))
  where
    of_class : (k : Option (Class A)) → option_map_or (λ c. is_bad_policy c.policy) k false ≡ false → list_all (holds_in courses) (option_map_or (λ c. edges_upon c.policy t (conflicting_holders m s t.0 ob op)) k []) ≡ true
    of_class None good = refl
    of_class (Some k) good =
        all-upon (holds_in courses) (λ u. is_in_progress (s.status u)) k.policy t (conflicting_holders m s t.0 ob op)
        (λ kind u formed on. ap not (formed-other kind (courses t.0) (courses u) (good-kind k.policy good kind formed) t_open (opens u on)))
        (conflicting_holders-on m s well t.0 ob op)
