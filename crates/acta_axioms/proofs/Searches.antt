-- The searches of a walk find what the definitions say.
use Rattle.std.proofs.Common.{if◌then◌else◌, ◌≡◌, ℕ, suc, ◌+◌, ◌-◌, ◌<◌, ◌≤◌, length, ◌==◌, Bool, true, false, ◌&&◌, ◌||◌, not, List, [], ◌∷◌, map, filter, Option, Some, None, refl, sym, ap, ◌∙◌, arith}
use Rattle.std.specs.Prelude.{slice_get}
use Rattle.std.proofs.lemmas.Option.{slice_get-map}
use Rattle.std.specs.Prelude.{option_map}
use Rattle.acta_objects.specs.declared.state.ObjectState.{ObjectState}
use Rattle.std.specs.List.{list_any}
use Rattle.std.specs.Ordering.{nat_cmp}
use Rattle.std.specs.BTreeMap.{is_at}
use Rattle.std.specs.Option.{option_map_or}
use Rattle.std.proofs.lemmas.Bool.{false≢true, eqb-true}
use Rattle.std.proofs.lemmas.List.Elements.{filter_agree}
use Rattle.std.proofs.lemmas.Simd.{map-map}
use Rattle.acta_table.specs.declared.event.Event.TheVariants.{Operate}
use Rattle.acta_table.specs.declared.event.Kept.{Kept}
use Rattle.acta_table.specs.declared.event.ObjId.{ObjId}
use Rattle.acta_table.specs.declared.event.Op.{Op}
use Rattle.acta_table.specs.declared.event.OpNo.{OpNo}
use Rattle.acta_table.specs.declared.event.TxnId.{TxnId}
use Rattle.acta_table.specs.declared.model.Class.{Class}
use Rattle.acta_table.specs.declared.model.Kind.{Kind}
use Rattle.acta_table.specs.declared.model.Parts.{Parts}
use Rattle.acta_table.specs.declared.policy.Policy.{Policy}
use Rattle.acta_table.specs.declared.policy.Policy.TheVariants.{Refuse, Depend}
use Rattle.acta_table.specs.declared.dep.Edge.{Edge}
use Rattle.acta_table.specs.declared.answer.Fate.{Fate}
use Rattle.acta_table.specs.declared.answer.Fate.TheVariants.{InProgress, Committed, Aborted}
use Rattle.acta_table.specs.Ancestors.{ancestors_from}
use Rattle.acta_table.specs.Classes.{exempts}
use Rattle.acta_table.specs.Fates.{is_aborted, is_open}
use Rattle.acta_table.specs.Numbered.{ascending}
use Rattle.acta_table.specs.Policies.{refuses, edges_upon}
use Rattle.acta_table.proofs.AscendingSets.{in-ascending, any-number}
use Rattle.acta_objects.specs.Objects.{suits, first_state, state_after}
use Rattle.acta_objects.specs.Conflicts.{conflict_on}
use Rattle.acta_table.specs.Classes.{kind_at}
use Rattle.acta_table.specs.Numbered.{numbers_from}
use Rattle.acta_sets.specs.declared.held_op.HeldOp.{HeldOp}
use Rattle.acta_sets.specs.Operations.{is_held, ops_conflict, is_against_but, is_against as is_against_in, holders_against as holders_against_in}
use Rattle.acta_sets.specs.Lineages.{Lineage, parent_in, AreExempt as AreExempted}
use Rattle.acta_sets.proofs.Lineages.{exempt-all}
use Rattle.acta_axioms.specs.declared.seeking.Sought.TheVariants.{Others, Against}
use Rattle.acta_axioms.specs.History.{has_class, class_of, parent_of, ancestors}
use Rattle.acta_axioms.specs.Operations.{Operation, Standing, standing, operations, is_exempt, is_of_others, access_set, conflict_set}
use Rattle.acta_axioms.specs.Permits.{is_permitted}
use Rattle.acta_values.specs.Conflicts.{is_well_formed}
use Rattle.acta_axioms.specs.Values.{do_conflict, conflicting, value}
use Rattle.acta_axioms.specs.Edges.{holders_against, formed_by}
use Rattle.acta_axioms.specs.Walks.{held_op, held_ops, op_numbers}
use Rattle.acta_values.specs.KeptValues.{kinds_of}
use Rattle.acta_values.specs.Live.{live_on, live_ops}
use Rattle.acta_values.specs.Stores.{Stored}
use Rattle.acta_axioms.specs.inside.Walking.{standing_in, exempt, exempt_numbers, AreExempt, is_against, is_sought, numbers_of}
use Rattle.acta_axioms.proofs.ByOperations.{holders-shown, value-shown}
use Rattle.acta_axioms.proofs.Conflicts.{do_conflict-on, suits-conflicts, ill-conflicts}
use Rattle.acta_axioms.proofs.Numbers.{numbers-shown}
use Rattle.acta_axioms.proofs.ValueGrowth.{filter-both}

-- walking the chain of ancestors: each step leaves the rest of the chain
pub line-next : (n i : ℕ) (parent : ℕ → Option TxnId) (p : TxnId) (here next : Option TxnId) → i < n → here ≡ Some p → next ≡ parent p.0 → ancestors_from (n - i) parent here ≡ p ∷ ancestors_from (n - (i + 1)) parent next
line-next n i parent p here next within is follows =
    let more : n - i ≡ suc (n - (i + 1)) = omega (arith, within) in
    (λ x. ancestors_from (more x) parent (is x)) ∙ ap (λ o. p ∷ ancestors_from (n - (i + 1)) parent o) (sym follows)

-- a transaction is in the set of exempt ones exactly if it is exempt
by-number : (ts : List TxnId) (u : ℕ) → list_any (λ n. n == u) (map (λ t. t.0) ts) ≡ list_any (λ t. t.0 == u) ts
by-number [] u = refl
by-number (t ∷ ts) u = ap (λ b. (t.0 == u) || b) (by-number ts u)

pub in-exempt : {A : Type 0} (m : Parts A) (h : List (Kept A)) (t u : ℕ) → list_any (is_at (nat_cmp u)) (exempt_numbers m h t) ≡ (has_class (λ k. exempts k.scope) m h t && list_any (λ a. a.0 == u) (ancestors h t))
in-exempt m h t u = in-ascending u (map (λ x. x.0) (exempt m h t)) ∙ by-number (exempt m h t) u ∙ of_test (has_class (λ k. exempts k.scope) m h t)
  where
    of_test : (b : Bool) → list_any (λ a. a.0 == u) (if b then ancestors h t else []) ≡ (b && list_any (λ a. a.0 == u) (ancestors h t))
    of_test true = refl
    of_test false = refl

-- the exempt transactions on an object: ancestors, and those that permit
pub exempt-on : {A : Type 0} (m : Parts A) (h : List (Kept A)) (t object : ℕ) (base keys : List ℕ) (found : List TxnId) → base ≡ exempt_numbers m h t → ((u : ℕ) → list_any (λ s. s.0 == u) found ≡ is_permitted h u t object)
    → ((u : ℕ) → list_any (λ k. k == u) keys ≡ (list_any (λ k. k == u) base || list_any (λ s. s.0 == u) found)) → AreExempt m h t object keys
exempt-on m h t object base keys found ancestors_are permit all u =
    all u ∙ (λ i. (ap (λ (ns : List ℕ). list_any (λ k. k == u) ns) ancestors_are ∙ sym (any-number u (exempt_numbers m h t)) ∙ in-exempt m h t u) i || permit u i)

-- ancestors that are remembered are exempt, for a class that exempts ancestors
pub exempt-remembered : {A : Type 0} (m : Parts A) (h : List (Kept A)) (t object : ℕ) (l : Lineage) → has_class (λ k. exempts k.scope) m h t ≡ true → ((u : ℕ) (p : TxnId) → parent_in l u ≡ Some p → parent_of h u ≡ Some p) → l.most ≤ length h
    → AreExempted l t (is_exempt m h t object)
exempt-remembered m h t object l has right deep =
    exempt-all l t (length h) (parent_of h) (is_exempt m h t object) deep right (λ u e. (λ i. (has i && e i) || is_permitted h u t object))

none_and : (a : Bool) → (a && false) ≡ false
none_and true = refl
none_and false = refl

-- a kept operation conflicts exactly if it does by the definitions
against-tells : {A : Type 0} (m : Parts A) (h : List (Kept A)) (t object : ℕ) (op : Op) (o : Operation) (s : Standing) →
    is_against m h t object op (held_op o s) ≡ (is_of_others m h t o.object s && ((o.object == object) && do_conflict m object o.op op))
against-tells m h t object op o s =
    ap (λ b. (o.object == object) && (is_of_others m h t object s && b)) (sym (do_conflict-on m object o.op op))
    ∙ turned (o.object == object) refl (do_conflict m object o.op op)
  where
    turned : (a : Bool) → (o.object == object) ≡ a → (c : Bool) → (a && (is_of_others m h t object s && c)) ≡ (is_of_others m h t o.object s && (a && c))
    turned true same c = ap (λ ob. is_of_others m h t ob s && c) (sym (eqb-true o.object object same))
    turned false other c = sym (none_and (is_of_others m h t o.object s))

moved_on : (f a b o c : Bool) → (f && a && b && o && c) ≡ (o && ((f && a && b) && c))
moved_on true true true true c = refl
moved_on true true true false c = refl
moved_on true true false true c = refl
moved_on true true false false c = refl
moved_on true false b true c = refl
moved_on true false b false c = refl
moved_on false a b true c = refl
moved_on false a b false c = refl

-- the same in the table's terms
against_but : {A : Type 0} (m : Parts A) (h : List (Kept A)) (t object : ℕ) (op : Op) (x : HeldOp) → is_well_formed m object op ≡ true → is_against_but t (is_exempt m h t object) object op x ≡ is_against m h t object op x
against_but m h t object op x is =
    ap (λ b. is_open x.fate && not (x.holder.0 == t) && not (is_exempt m h t object x.holder.0) && (x.ob.0 == object) && b) (suits-conflicts m object x.op op is)
    ∙ moved_on (is_open x.fate) (not (x.holder.0 == t)) (not (is_exempt m h t object x.holder.0)) (x.ob.0 == object) (conflict_on m object x.op op)

against_by : {A : Type 0} (m : Parts A) (h : List (Kept A)) (t object : ℕ) (op : Op) (keys : List ℕ) (x : HeldOp) → AreExempt m h t object keys → is_well_formed m object op ≡ true → is_against_in t keys object op x ≡ is_against m h t object op x
against_by m h t object op keys x same is =
    ap (λ b. is_open x.fate && not (x.holder.0 == t) && not b && (x.ob.0 == object) && ops_conflict x.op op) (same x.holder.0)
    ∙ against_but m h t object op x is

none_against : {A : Type 0} (m : Parts A) (h : List (Kept A)) (t object : ℕ) (op : Op) (x : HeldOp) → is_well_formed m object op ≡ false → is_against m h t object op x ≡ false
none_against m h t object op x is =
    ap (λ b. (x.ob.0 == object) && (is_of_others m h t object (standing_in x) && b)) (ill-conflicts m object x.op op is)
    ∙ ap (λ b. (x.ob.0 == object) && b) (none_and (is_of_others m h t object (standing_in x))) ∙ none_and (x.ob.0 == object)

any_none : (test : HeldOp → Bool) (xs : List HeldOp) → ((x : HeldOp) → test x ≡ false) → list_any test xs ≡ false
any_none test [] none = refl
any_none test (x ∷ xs) none = ap (λ b. b || list_any test xs) (none x) ∙ any_none test xs none

any-by : {A : Type 0} (m : Parts A) (h : List (Kept A)) (t object : ℕ) (op : Op) (keys : List ℕ) (xs : List HeldOp) → AreExempt m h t object keys → is_well_formed m object op ≡ true →
    list_any (is_against_in t keys object op) xs ≡ list_any (is_against m h t object op) xs
any-by m h t object op keys xs same is = ap (λ (test : HeldOp → Bool). list_any test xs) (λ i x. against_by m h t object op keys x same is i)

any-ill : {A : Type 0} (m : Parts A) (h : List (Kept A)) (t object : ℕ) (op : Op) (xs : List HeldOp) → is_well_formed m object op ≡ false → false ≡ list_any (is_against m h t object op) xs
any-ill m h t object op xs is = sym (any_none (is_against m h t object op) xs (λ x. none_against m h t object op x is))

pub any-tells : {A : Type 0} (m : Parts A) (h : List (Kept A)) (t object : ℕ) (op : Op) (keys : List ℕ) (xs : List HeldOp) → AreExempt m h t object keys
    → (is_well_formed m object op && list_any (is_against_in t keys object op) xs) ≡ list_any (is_against m h t object op) xs
any-tells m h t object op keys xs same = reported (is_well_formed m object op) (any-by m h t object op keys xs same) (any-ill m h t object op xs)
  where
    reported : (b : Bool) → (b ≡ true → list_any (is_against_in t keys object op) xs ≡ list_any (is_against m h t object op) xs) → (b ≡ false → false ≡ list_any (is_against m h t object op) xs)
        → (b && list_any (is_against_in t keys object op) xs) ≡ list_any (is_against m h t object op) xs
    reported true is ill = is refl
    reported false is ill = ill refl

-- if no operation of another conflicts, none of the conflict set does
pub none-conflicted : {A : Type 0} (m : Parts A) (h : List (Kept A)) (t object : ℕ) (op : Op) (xs : List HeldOp) → (is_well_formed m object op && list_any (is_against_but t (is_exempt m h t object) object op) xs) ≡ false → list_any (is_against m h t object op) xs ≡ false
none-conflicted m h t object op xs none = reported (is_well_formed m object op) refl none
  where
    reported : (b : Bool) → is_well_formed m object op ≡ b → (b && list_any (is_against_but t (is_exempt m h t object) object op) xs) ≡ false → list_any (is_against m h t object op) xs ≡ false
    reported true is e = sym (ap (λ (test : HeldOp → Bool). list_any test xs) (λ i x. against_but m h t object op x is i)) ∙ e
    reported false is e = sym (any-ill m h t object op xs is)

-- if none passes, none is found
none_numbered : (test : HeldOp → Bool) (n : ℕ) (xs : List HeldOp) → list_any test xs ≡ false → [] ≡ numbers_from test n xs
none_numbered test n [] none = refl
none_numbered test n (x ∷ xs) none = of_test (test x) none (none_numbered test (n + 1) xs)
  where
    of_test : (b : Bool) → (b || list_any test xs) ≡ false → (list_any test xs ≡ false → [] ≡ numbers_from test (n + 1) xs) → [] ≡ (if b then n ∷ numbers_from test (n + 1) xs else numbers_from test (n + 1) xs)
    of_test true is later = absurd (false≢true (sym is))
    of_test false is later = later is

-- the conflicting holders
pub holders-found : {A : Type 0} (m : Parts A) (h : List (Kept A)) (t object : ℕ) (op : Op) → ascending (map (λ x. x.holder.0) (filter (is_against m h t object op) (held_ops m h))) ≡ holders_against m h t object op
holders-found m h t object op =
    ap ascending (sym (holders-shown m h t object op (λ o. held_op o (standing m h o)) (is_against m h t object op) (λ x. x.holder.0) (λ o. against-tells m h t object op o (standing m h o)) (λ o. refl)))

holders-by : {A : Type 0} (m : Parts A) (h : List (Kept A)) (t object : ℕ) (op : Op) (keys : List ℕ) → AreExempt m h t object keys → is_well_formed m object op ≡ true →
    holders_against_in t keys object op (held_ops m h) ≡ holders_against m h t object op
holders-by m h t object op keys same is =
    ap (λ xs. ascending (map (λ (x : HeldOp). x.holder.0) xs)) (filter_agree (is_against_in t keys object op) (is_against m h t object op) (λ x. against_by m h t object op keys x same is) (held_ops m h))
    ∙ holders-found m h t object op

none_held : (test : HeldOp → Bool) (xs : List HeldOp) → ((x : HeldOp) → test x ≡ false) → [] ≡ filter test xs
none_held test [] none = refl
none_held test (x ∷ xs) none = none_held test xs none ∙ ap (λ b. if b then x ∷ filter test xs else filter test xs) (sym (none x))

holders-ill : {A : Type 0} (m : Parts A) (h : List (Kept A)) (t object : ℕ) (op : Op) → is_well_formed m object op ≡ false → [] ≡ holders_against m h t object op
holders-ill m h t object op is =
    ap (λ xs. ascending (map (λ (x : HeldOp). x.holder.0) xs)) (none_held (is_against m h t object op) (held_ops m h) (λ x. none_against m h t object op x is)) ∙ holders-found m h t object op

pub holders-tell : {A : Type 0} (m : Parts A) (h : List (Kept A)) (t object : ℕ) (op : Op) (keys : List ℕ) → AreExempt m h t object keys
    → (if is_well_formed m object op then holders_against_in t keys object op (held_ops m h) else []) ≡ holders_against m h t object op
holders-tell m h t object op keys same = reported (is_well_formed m object op) (holders-by m h t object op keys same) (holders-ill m h t object op)
  where
    reported : (b : Bool) → (b ≡ true → holders_against_in t keys object op (held_ops m h) ≡ holders_against m h t object op) → (b ≡ false → [] ≡ holders_against m h t object op)
        → (if b then holders_against_in t keys object op (held_ops m h) else []) ≡ holders_against m h t object op
    reported true is ill = is refl
    reported false is ill = ill refl

-- the numbers of the operations that pass a test
found : {A : Type 0} (m : Parts A) (h : List (Kept A)) (test : HeldOp → Bool) → numbers_of test (held_ops m h) ≡ op_numbers (filter (λ o. test (held_op o (standing m h o))) (operations h))
found m h test =
    let made : ℕ → OpNo = λ n. record { 0 = n } in
    sym (ap (map made) (numbers-shown (λ o. held_op o (standing m h o)) test h)) ∙ map-map made (λ (o : Operation). o.number) (filter (λ o. test (held_op o (standing m h o))) (operations h))

pub held-found : {A : Type 0} (m : Parts A) (h : List (Kept A)) (t : ℕ) → numbers_of (is_held t) (held_ops m h) ≡ op_numbers (access_set m h t)
held-found m h t = found m h (is_held t)

pub others-found : {A : Type 0} (m : Parts A) (h : List (Kept A)) (t : ℕ) → numbers_of (is_sought m h t Others) (held_ops m h) ≡ op_numbers (conflict_set m h t)
others-found m h t = found m h (is_sought m h t Others)

pub against-found : {A : Type 0} (m : Parts A) (h : List (Kept A)) (t : ℕ) (object : ObjId) (op : Op) → numbers_of (is_sought m h t (Against object op)) (held_ops m h) ≡ op_numbers (conflicting m h t object.0 op)
against-found m h t object op =
    found m h (is_sought m h t (Against object op))
    ∙ ap op_numbers
    (filter_agree (λ o. is_against m h t object.0 op (held_op o (standing m h o))) (λ o. is_of_others m h t o.object (standing m h o) && ((o.object == object.0) && do_conflict m object.0 o.op op)) (λ o. against-tells m h t object.0 op o (standing m h o)) (operations h)
    ∙ filter-both (λ o. is_of_others m h t o.object (standing m h o)) (λ o. (o.object == object.0) && do_conflict m object.0 o.op op) (operations h))

pub none-found : {A : Type 0} (m : Parts A) (h : List (Kept A)) (t : ℕ) (object : ObjId) (op : Op) → list_any (is_against m h t object.0 op) (held_ops m h) ≡ false → [] ≡ op_numbers (conflicting m h t object.0 op)
none-found m h t object op none =
    let made : ℕ → OpNo = λ n. record { 0 = n } in
    ap (map made) (none_numbered (is_against m h t object.0 op) 1 (held_ops m h) none) ∙ against-found m h t object op

-- the value of an object
pick_live : (here : Bool) (fate : Fate) (fits : Bool) (op : Op) →
    (if here && not (is_aborted fate) && fits then Some op else None)
    ≡ (if not (is_aborted fate) then (if here && fits then Some op else None) else None)
pick_live true InProgress fits op = refl
pick_live true Committed fits op = refl
pick_live true Aborted fits op = refl
pick_live false InProgress fits op = refl
pick_live false Committed fits op = refl
pick_live false Aborted fits op = refl

pub value-found : {A : Type 0} (m : Parts A) (h : List (Kept A)) (items : List HeldOp) (object : ℕ) (kind : Kind) → items ≡ held_ops m h → state_after {A = A} (first_state kind) (live_ops kind items object) ≡ value m h object kind
value-found {A} m h items object kind same =
    ap (λ xs. state_after {A = A} (first_state kind) (live_ops kind xs object)) same
    ∙ sym (value-shown m h object kind (λ o. held_op o (standing m h o)) (live_on kind object) (λ o. pick_live (o.object == object) (standing m h o).fate (suits kind o.op) o.op))

-- a property of a kept value is that of the object's value, if there is an object
pub value-read : {A R : Type 0} (m : Parts A) (h : List (Kept A)) (s : Stored) (object : ℕ) (f : ObjectState A → R) → s.kinds ≡ kinds_of m.objects → s.items ≡ held_ops m h →
    option_map (λ kind. f (state_after (first_state kind) (live_ops kind s.items object))) (slice_get s.kinds object) ≡ option_map (λ kind. f (value m h object kind)) (kind_at m object)
value-read {A} {R} m h s object f kinds items =
    ap (λ (ks : List Kind). option_map (λ kind. f (state_after {A = A} (first_state kind) (live_ops kind s.items object))) (slice_get ks object)) kinds
    ∙ ap (option_map (λ kind. f (state_after {A = A} (first_state kind) (live_ops kind s.items object)))) (slice_get-map (λ o. o.kind) m.objects object)
    ∙ of (kind_at m object)
  where
    of : (k : Option Kind) → option_map (λ kind. f (state_after {A = A} (first_state kind) (live_ops kind s.items object))) k ≡ option_map (λ kind. f (value m h object kind)) k
    of None = refl
    of (Some kind) = ap (λ x. Some (f x)) (value-found m h s.items object kind items)

-- edges of operations: a class that refuses forms none
pub upon-refuses : (policy : Policy) (t : TxnId) (us : List ℕ) → refuses policy ≡ true → edges_upon policy t us ≡ []
upon-refuses Refuse t [] is = refl
upon-refuses Refuse t (u ∷ us) is = upon-refuses Refuse t us is
upon-refuses (Depend kinds) t us is = absurd (false≢true is)

-- the edges that an operation forms under its transaction's class
abbrev formed_under : {A : Type 0} → Parts A → List (Kept A) → TxnId → ObjId → Op → Option (Class A) → List Edge
formed_under m h t object op class = option_map_or (λ k. edges_upon k.policy t (holders_against m h t.0 object.0 op)) class []

pub upon-class : {A : Type 0} (m : Parts A) (h : List (Kept A)) (t : TxnId) (object : ObjId) (op : Op) (class : Option (Class A)) (es : List Edge) → class ≡ class_of m h t.0 →
    es ≡ formed_under m h t object op class → es ≡ formed_by m h (Operate t object op)
upon-class m h t object op class es is made = made ∙ ap (formed_under m h t object op) is
