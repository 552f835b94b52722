-- Facts about an item without fault in a history of a strict model.
use Rattle.std.proofs.Common.{arith, ◌≡◌, ℕ, zero, suc, ◌<◌, ◌==◌, Bool, true, false, ◌&&◌, ◌||◌, not, cond, List, [], ◌∷◌, length, map, filter, Option, Some, None, is_some, refl, sym, ap, ◌∙◌}
use Rattle.std.specs.Prelude.{if◌then◌else◌, nat_le, slice_get, option_map}
use Rattle.std.specs.List.{list_all, list_any}
use Rattle.std.specs.Option.{option_map_or, option_and_then}
use Rattle.std.proofs.lemmas.Bool.{true≢false, and_parts, or_parts, leb-false, not-false, not-true}
use Rattle.std.proofs.lemmas.Bool.Decides.{Decides-int_eq}
use Rattle.acta_table.specs.declared.answer.Rule.{Rule}
use Rattle.acta_table.specs.declared.answer.Rule.TheVariants.{BadClass, BadObject, BadOperation}
use Rattle.acta_table.specs.declared.event.ClassId.{ClassId}
use Rattle.acta_table.specs.declared.event.Event.{Event}
use Rattle.acta_table.specs.declared.event.Event.TheVariants.{Spawn, Split, Join, Delegate, Operate, Permit}
use Rattle.acta_table.specs.declared.event.EventKind.TheVariants.{Spawn as spawn_kind, Split as split_kind, Join as join_kind, Delegate as delegate_kind, Permit as permit_kind}
use Rattle.acta_table.specs.declared.event.Kept.{Kept}
use Rattle.acta_table.specs.declared.event.ObjId.{ObjId}
use Rattle.acta_table.specs.declared.event.Op.{Op}
use Rattle.acta_table.specs.declared.event.OpNo.{OpNo}
use Rattle.acta_table.specs.declared.event.Ret.{Ret}
use Rattle.acta_table.specs.declared.event.Ret.TheVariants.{Done, Value, Flag}
use Rattle.acta_table.specs.declared.event.TxnId.{TxnId}
use Rattle.acta_table.specs.declared.model.Class.{Class}
use Rattle.acta_table.specs.declared.model.Object.{Object}
use Rattle.acta_table.specs.declared.model.Parts.{Parts}
use Rattle.acta_table.specs.Classes.{class_at, can_start, can_do, exempts}
use Rattle.acta_table.specs.Events.{kind_of, acting, class_named}
use Rattle.acta_table.specs.Policies.{refuses}
use Rattle.acta_table.specs.Refusals.{broken_if}
use Rattle.acta_table.specs.WellFormed.{bad_number, bad_class, bad_object, same_transaction}
use Rattle.acta_objects.specs.Objects.{suits}
use Rattle.acta_objects.specs.WellFormed.{bad_operation}
use Rattle.acta_axioms.specs.History.{has_begun, has_ended, is_in_progress, has_class, class_of}
use Rattle.acta_axioms.specs.Operations.{Operation, number_after}
use Rattle.acta_values.specs.Conflicts.{is_well_formed}
use Rattle.acta_axioms.specs.Values.{return_due, conflicting}
use Rattle.acta_axioms.specs.Faults.{when, first_named, ill_formed, lacks_start, lacks_kind, cannot_form, not_allowed, in_conflict, is_same_ret, is_due, wrong_return}
use Rattle.acta_axioms.proofs.Growth.{class_in}
use Rattle.acta_axioms.specs.Serial.{is_strict_class, is_strict}

-- a test is false if it lists nothing
pub when-none : (b : Bool) (n : ℕ) → when b n ≡ [] → b ≡ false
when-none true n e = cc
when-none false n e = refl

first-none : {X : Type 0} (test : X → Bool) (x : X) (xs : List X) → filter test (x ∷ xs) ≡ [] → test x ≡ false
first-none {X} test x xs e = of (test x) e
  where
    of : (b : Bool) → cond b (x ∷ filter test xs) (filter test xs) ≡ [] → b ≡ false
    of true is = cc
    of false is = refl

unbroken-if : (b : Bool) (rule : Rule) → is_some (broken_if b rule) ≡ false → b ≡ false
unbroken-if true rule e = e
unbroken-if false rule e = refl

-- the parts of being strict
pub record StrictParts {A : Type 0} (k : Class A) : Type 0 where
  pub spawned : k.starts.spawned ≡ false
  pub split : k.starts.split ≡ false
  pub scope : exempts k.scope ≡ false
  pub policy : refuses k.policy ≡ true
  pub spawns : can_do spawn_kind k ≡ false
  pub splits : can_do split_kind k ≡ false
  pub joins : can_do join_kind k ≡ false
  pub delegates : can_do delegate_kind k ≡ false
  pub permits : can_do permit_kind k ≡ false

pub strict-parts : {A : Type 0} (k : Class A) → is_strict_class k ≡ true → StrictParts k
strict-parts k e =
    let t2 = not k.starts.spawned && not k.starts.split in
    let t3 = t2 && not (exempts k.scope) in
    let t4 = t3 && refuses k.policy in
    let t5 = t4 && not (can_do spawn_kind k) in
    let t6 = t5 && not (can_do split_kind k) in
    let t7 = t6 && not (can_do join_kind k) in
    let t8 = t7 && not (can_do delegate_kind k) in
    let p9 = and_parts t8 (not (can_do permit_kind k)) e in
    let p8 = and_parts t7 (not (can_do delegate_kind k)) p9.0 in
    let p7 = and_parts t6 (not (can_do join_kind k)) p8.0 in
    let p6 = and_parts t5 (not (can_do split_kind k)) p7.0 in
    let p5 = and_parts t4 (not (can_do spawn_kind k)) p6.0 in
    let p4 = and_parts t3 (refuses k.policy) p5.0 in
    let p3 = and_parts t2 (not (exempts k.scope)) p4.0 in
    let p2 = and_parts (not k.starts.spawned) (not k.starts.split) p3.0 in
    record {
      spawned = not-true _ p2.0;
      split = not-true _ p2.1;
      scope = not-true _ p3.1;
      policy = p4.1;
      spawns = not-true _ p5.1;
      splits = not-true _ p6.1;
      joins = not-true _ p7.1;
      delegates = not-true _ p8.1;
      permits = not-true _ p9.1;
    }

-- a strict class of the model has each property of strict classes
pub of-strict : {A : Type 0} (test : Class A → Bool) (b : Bool) → ((k : Class A) → StrictParts k → test k ≡ b) → (class : Option (Class A)) → option_map_or is_strict_class class false ≡ true → option_map_or test class false ≡ b
of-strict test b each None e = absurd (true≢false (sym e))
of-strict test b each (Some k) e = each k (strict-parts k e)

-- the form of an event
record IsFormed {A : Type 0} (m : Parts A) (e : Event A) : Type 0 where
  pub class : is_some (bad_class m e) ≡ false
  pub object : is_some (bad_object m e) ≡ false
  pub operation : is_some (bad_operation m e) ≡ false

formed-parts : {A : Type 0} (m : Parts A) (e : Event A) → ill_formed m e ≡ [] → IsFormed m e
formed-parts m e none =
    let broken = list_any is_some (bad_number e ∷ bad_class m e ∷ bad_object m e ∷ bad_operation m e ∷ same_transaction e ∷ []) in
    let p1 = or_parts (is_some (bad_number e)) _ (when-none broken (first_named e) none) in
    let p2 = or_parts (is_some (bad_class m e)) _ p1.1 in
    let p3 = or_parts (is_some (bad_object m e)) _ p2.1 in
    let p4 = or_parts (is_some (bad_operation m e)) _ p3.1 in
    record { class = p2.0; object = p3.0; operation = p4.0 }

-- the item with a number passes if all do
all-there : {X : Type 0} (test : X → Bool) (xs : List X) (n : ℕ) → list_all test xs ≡ true → n < length xs → option_map_or test (slice_get xs n) false ≡ true
all-there test [] n all within = absurd (omega arith)
all-there test (x ∷ xs) zero all within = (and_parts (test x) (list_all test xs) all).0
all-there test (x ∷ xs) (suc n) all within = all-there test xs n (and_parts (test x) (list_all test xs) all).1 (omega arith)

-- the class that an event names exists and is strict
pub class-strict : {A : Type 0} (m : Parts A) (e : Event A) (c : ℕ) → is_strict m ≡ true → ill_formed m e ≡ [] → class_named e ≡ Some c → option_map_or is_strict_class (class_in m e) false ≡ true
unfolding bad_class
class-strict m e c strict none named =
    let within = unbroken-if (option_map_or (nat_le (length m.classes)) (class_named e) false) BadClass (formed-parts m e none).class in
    ap (λ n. option_map_or is_strict_class (option_and_then (class_at m) n) false) named
    ∙ all-there is_strict_class m.classes c strict (leb-false _ _ (sym (ap (λ n. option_map_or (nat_le (length m.classes)) n false) named) ∙ within))

-- an event that is allowed lacks nothing
pub lacks-nothing : {A : Type 0} (m : Parts A) (h : List (Kept A)) (e : Event A) → not_allowed m h e ≡ [] → (lacks_start m e ≡ false) × (option_map_or (lacks_kind m h (kind_of e)) (acting e) false ≡ false)
lacks-nothing m h e none =
    let kind = option_map_or (lacks_kind m h (kind_of e)) (acting e) false in
    let p1 = or_parts (lacks_start m e) (kind || cannot_form m h e) (when-none (lacks_start m e || (kind || cannot_form m h e)) (first_named e) none) in
    (p1.0, (or_parts kind (cannot_form m h e) p1.1).0)

-- so nothing is spawned or split off
pub no-spawn : {A : Type 0} (m : Parts A) (h : List (Kept A)) (t c : TxnId) (class : ClassId) → is_strict m ≡ true → ill_formed m (Spawn t c class) ≡ [] → not_allowed m h (Spawn t c class) ≡ [] → ⊥
no-spawn m h t c class strict formed allowed =
    true≢false
    (sym (of-strict (λ k. not (can_start spawn_kind k)) true (λ k s. ap not s.spawned) (class_in m (Spawn t c class)) (class-strict m (Spawn t c class) class.0 strict formed refl))
    ∙ (lacks-nothing m h (Spawn t c class) allowed).0)

pub no-split : {A : Type 0} (m : Parts A) (h : List (Kept A)) (t u : TxnId) (class : ClassId) (ops : List OpNo) → is_strict m ≡ true → ill_formed m (Split t u class ops) ≡ [] → not_allowed m h (Split t u class ops) ≡ [] → ⊥
no-split m h t u class ops strict formed allowed =
    true≢false
    (sym (of-strict (λ k. not (can_start split_kind k)) true (λ k s. ap not s.split) (class_in m (Split t u class ops)) (class-strict m (Split t u class ops) class.0 strict formed refl))
    ∙ (lacks-nothing m h (Split t u class ops) allowed).0)

-- nor does a transaction with a strict class join another or delegate
pub no-join : {A : Type 0} (m : Parts A) (h : List (Kept A)) (t u : TxnId) → has_class is_strict_class m h t.0 ≡ true → not_allowed m h (Join t u) ≡ [] → ⊥
no-join m h t u strict allowed =
    true≢false
    (sym (of-strict (λ k. not (can_do join_kind k)) true (λ k s. ap not s.joins) (class_of m h t.0) strict)
    ∙ (lacks-nothing m h (Join t u) allowed).1)

pub no-delegation : {A : Type 0} (m : Parts A) (h : List (Kept A)) (t u : TxnId) (ops : List OpNo) → has_class is_strict_class m h t.0 ≡ true → not_allowed m h (Delegate t u ops) ≡ [] → ⊥
no-delegation m h t u ops strict allowed =
    true≢false
    (sym (of-strict (λ k. not (can_do delegate_kind k)) true (λ k s. ap not s.delegates) (class_of m h t.0) strict)
    ∙ (lacks-nothing m h (Delegate t u ops) allowed).1)

-- nor does it permit
pub no-permit : {A : Type 0} (m : Parts A) (h : List (Kept A)) (t u : TxnId) (ob : ObjId) → has_class is_strict_class m h t.0 ≡ true → not_allowed m h (Permit t u ob) ≡ [] → ⊥
no-permit m h t u ob strict allowed =
    true≢false
    (sym (of-strict (λ k. not (can_do permit_kind k)) true (λ k s. ap not s.permits) (class_of m h t.0) strict)
    ∙ (lacks-nothing m h (Permit t u ob) allowed).1)

-- a transaction that ends has begun, and not ended before
pub ends-begun : {A : Type 0} (h : List (Kept A)) (t : ℕ) → filter (λ u. not (has_begun h u)) (t ∷ []) ≡ [] → has_begun h t ≡ true
ends-begun h t none = not-false (has_begun h t) (first-none (λ u. not (has_begun h u)) t [] none)

pub ends-open : {A : Type 0} (h : List (Kept A)) (t : ℕ) → filter (has_ended h) (t ∷ []) ≡ [] → has_ended h t ≡ false
ends-open h t none = first-none (has_ended h) t [] none

-- a transaction that delegates or permits is in progress
pub parties-begun : {A : Type 0} (h : List (Kept A)) (t u : TxnId) → filter (λ v. not (is_in_progress h v)) (if t.0 == u.0 then t.0 ∷ [] else t.0 ∷ u.0 ∷ []) ≡ [] → has_begun h t.0 ≡ true
parties-begun h t u none =
    (and_parts (has_begun h t.0) (not (has_ended h t.0)) (not-false (is_in_progress h t.0) (of (t.0 == u.0) none))).0
  where
    of : (b : Bool) → filter (λ v. not (is_in_progress h v)) (if b then t.0 ∷ [] else t.0 ∷ u.0 ∷ []) ≡ [] → not (is_in_progress h t.0) ≡ false
    of true e = first-none (λ v. not (is_in_progress h v)) t.0 [] e
    of false e = first-none (λ v. not (is_in_progress h v)) t.0 (u.0 ∷ []) e

-- the transaction of an operation is in progress
pub operates-open : {A : Type 0} (h : List (Kept A)) (t : ℕ) → when (not (is_in_progress h t)) t ≡ [] → is_in_progress h t ≡ true
operates-open h t none = not-false (is_in_progress h t) (when-none (not (is_in_progress h t)) t none)

-- the operation conflicts with none
pub conflicts-none : {A : Type 0} (m : Parts A) (h : List (Kept A)) (t : TxnId) (ob : ObjId) (op : Op) → has_class is_strict_class m h t.0 ≡ true → in_conflict m h (Operate t ob op) ≡ [] → conflicting m h t.0 ob.0 op ≡ []
conflicts-none m h t ob op strict none =
    of (has_class (λ k. refuses k.policy) m h t.0) (of-strict (λ k. refuses k.policy) true (λ k s. s.policy) (class_of m h t.0) strict) none
  where
    no_map : (os : List Operation) → map (λ o. o.number) os ≡ [] → os ≡ []
    no_map [] e = refl
    no_map (o ∷ os) e = cc

    of : (b : Bool) → b ≡ true → (if b then map (λ o. o.number) (conflicting m h t.0 ob.0 op) else []) ≡ [] → conflicting m h t.0 ob.0 op ≡ []
    of true is e = no_map (conflicting m h t.0 ob.0 op) e
    of false is e = absurd (true≢false (sym is))

-- it has the return due
same-ret : (r s : Ret) → is_same_ret r s ≡ true → r ≡ s
same-ret Done Done e = refl
same-ret Done (Value w) e = absurd (true≢false (sym e))
same-ret Done (Flag c) e = absurd (true≢false (sym e))
same-ret (Value v) Done e = absurd (true≢false (sym e))
same-ret (Value v) (Value w) e = ap Value ((Decides-int_eq v w).0 e)
same-ret (Value v) (Flag c) e = absurd (true≢false (sym e))
same-ret (Flag b) Done e = absurd (true≢false (sym e))
same-ret (Flag b) (Value w) e = absurd (true≢false (sym e))
same-ret (Flag true) (Flag c) e = ap Flag (sym e)
same-ret (Flag false) (Flag true) e = absurd (true≢false (sym e))
same-ret (Flag false) (Flag false) e = refl

due-ret : (due ret : Option Ret) → is_due due ret ≡ true → due ≡ ret
due-ret None ret e = absurd (true≢false (sym e))
due-ret (Some r) None e = absurd (true≢false (sym e))
due-ret (Some r) (Some s) e = ap Some (same-ret r s e)

-- its object exists
pub object-there : {A : Type 0} (m : Parts A) (t : TxnId) (ob : ObjId) (op : Op) → ill_formed m (Operate t ob op) ≡ [] → ob.0 < length m.objects
unfolding bad_object
object-there m t ob op none = leb-false _ _ (unbroken-if _ BadObject (formed-parts m (Operate t ob op) none).object)

well-formed : {A : Type 0} (m : Parts A) (t : TxnId) (ob : ObjId) (op : Op) → ill_formed m (Operate t ob op) ≡ [] → is_well_formed m ob.0 op ≡ true
unfolding bad_object bad_operation
well-formed {A} m t ob op none =
    let parts = formed-parts m (Operate t ob op) none in
    of m.objects ob.0 (leb-false _ _ (unbroken-if _ BadObject parts.object)) (unbroken-if _ BadOperation parts.operation)
  where
    of : (os : List (Object A)) (n : ℕ) → n < length os → option_map_or (λ kind. not (suits kind op)) (option_map (λ o. o.kind) (slice_get os n)) false ≡ false → option_map_or (λ kind. suits kind op) (option_map (λ o. o.kind) (slice_get os n)) false ≡ true
    of [] n within e = absurd (omega arith)
    of (o ∷ os) zero within e = not-false (suits o.kind op) e
    of (o ∷ os) (suc n) within e = of os n (omega arith) e

-- so it has a return
pub returned-some : {A : Type 0} (m : Parts A) (h : List (Kept A)) (ret : Option Ret) (t : TxnId) (ob : ObjId) (op : Op) → ill_formed m (Operate t ob op) ≡ [] → wrong_return m h ret (Operate t ob op) ≡ [] → is_some ret ≡ true
returned-some m h ret t ob op formed none =
    let wrong = not (is_due (return_due m h ob.0 op) ret) in
    of (return_due m h ob.0 op) ret
    (not-false (is_due (return_due m h ob.0 op) ret)
    (sym (ap (λ b. b && wrong) (well-formed m t ob op formed)) ∙ when-none (is_well_formed m ob.0 op && wrong) (number_after h) none))
  where
    of : (due r : Option Ret) → is_due due r ≡ true → is_some r ≡ true
    of None r e = absurd (true≢false (sym e))
    of (Some d) None e = absurd (true≢false (sym e))
    of (Some d) (Some r) e = refl

pub returns-due : {A : Type 0} (m : Parts A) (h : List (Kept A)) (ret : Option Ret) (t : TxnId) (ob : ObjId) (op : Op) → ill_formed m (Operate t ob op) ≡ [] → wrong_return m h ret (Operate t ob op) ≡ [] → return_due m h ob.0 op ≡ ret
returns-due m h ret t ob op formed none =
    let wrong = not (is_due (return_due m h ob.0 op) ret) in
    due-ret _ _
    (not-false (is_due (return_due m h ob.0 op) ret)
    (sym (ap (λ b. b && wrong) (well-formed m t ob op formed)) ∙ when-none (is_well_formed m ob.0 op && wrong) (number_after h) none))
