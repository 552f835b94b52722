-- The operations of the table are those by places, also after one more event.
use Rattle.std.proofs.Common.{◌≡◌, ℕ, suc, ◌+◌, ◌==◌, Bool, true, false, ◌&&◌, cond, List, [], ◌∷◌, ◌++◌, map, slice_get, Option, Some, None, refl, sym, ap, ◌∙◌, arith, eq-eqb, inl, inr}
use Rattle.std.specs.List.{filter_map, cons_option}
use Rattle.std.specs.Option.{option_map_or}
use Rattle.std.specs.Prelude.{if◌then◌else◌}
use Rattle.std.proofs.lemmas.Bool.{true≢false, ne_eqb, eqb-true, cases_eq}
use Rattle.std.proofs.lemmas.List.{append-nil}
use Rattle.std.proofs.lemmas.Simd.{map-map}
use Rattle.acta_table.specs.declared.dep.Dep.{Dep}
use Rattle.acta_table.specs.declared.event.TxnId.{TxnId}
use Rattle.acta_table.specs.declared.event.ClassId.{ClassId}
use Rattle.acta_table.specs.declared.event.ObjId.{ObjId}
use Rattle.acta_table.specs.declared.event.Op.{Op}
use Rattle.acta_table.specs.declared.event.Ret.{Ret}
use Rattle.acta_table.specs.declared.event.Event.TheVariants.{Begin, Spawn, Split, Join, Delegate, Form, Operate, Commit, Abort, Permit}
use Rattle.acta_table.specs.declared.event.Kept.{Kept}
use Rattle.acta_table.specs.declared.answer.Fate.{Fate}
use Rattle.acta_table.specs.declared.answer.Fate.TheVariants.{InProgress, Committed, Aborted}
use Rattle.acta_table.specs.declared.model.Parts.{Parts}
use Rattle.acta_table.specs.declared.event.Event.{Event}
use Rattle.acta_table.specs.declared.event.OpNo.{OpNo}
use Rattle.acta_table.specs.Sets.{is_named}
use Rattle.acta_table.specs.Fates.{is_open}
use Rattle.acta_axioms.specs.History.{places_after}
use Rattle.acta_axioms.specs.Operations.{Operation, Standing, held_by, ended_by, heir, carried, standing, operations, is_operate, number_after, operation_in, operation_at}
use Rattle.acta_axioms.proofs.Growth.{at_end, shown-push, number_after-push}
use Rattle.acta_sets.specs.declared.held_op.HeldOp.{HeldOp}
use Rattle.acta_sets.specs.Operations.{is_held, transferred_op, transferred, ended_op, ended, moved_from, moved, added}
use Rattle.acta_machine.specs.Places.{held_op, held_ops}
use Rattle.acta_axioms.proofs.Numbers.{holds}

map-same : {X Y : Type 0} (f g : X → Y) → ((x : X) → f x ≡ g x) → (xs : List X) → map f xs ≡ map g xs
map-same f g same [] = refl
map-same f g same (x ∷ xs) = λ i. same x i ∷ map-same f g same xs i

-- an event that ends no transaction leaves an operation unchanged
idle : (fate : Fate) (t : ℕ) → (if is_open fate then held_by t else record { holder = t; fate = fate }) ≡ record { holder = t; fate = fate }
idle InProgress t = refl
idle Committed t = refl
idle Aborted t = refl

-- a start changes no operation
pub operations-begin : {A : Type 0} (m : Parts A) (h : List (Kept A)) (ret : Option Ret) (t : TxnId) (class : ClassId) → held_ops m (h ++ (record { event = Begin t class; ret = ret }) ∷ []) ≡ held_ops m h
operations-begin {A} m h ret t class =
    let k : Kept A = record { event = Begin t class; ret = ret } in
    shown-push held_op m h k
    ∙ append-nil (map (λ o. held_op o (carried m o.number (standing m h o) (at_end h k))) (operations h))
    ∙ map-same _ _ (λ o. ap (held_op o) (idle (standing m h o).fate (standing m h o).holder)) (operations h)

pub operations-spawn : {A : Type 0} (m : Parts A) (h : List (Kept A)) (ret : Option Ret) (t c : TxnId) (class : ClassId) → held_ops m (h ++ (record { event = Spawn t c class; ret = ret }) ∷ []) ≡ held_ops m h
operations-spawn {A} m h ret t c class =
    let k : Kept A = record { event = Spawn t c class; ret = ret } in
    shown-push held_op m h k
    ∙ append-nil (map (λ o. held_op o (carried m o.number (standing m h o) (at_end h k))) (operations h))
    ∙ map-same _ _ (λ o. ap (held_op o) (idle (standing m h o).fate (standing m h o).holder)) (operations h)

-- neither does forming an edge
pub operations-form : {A : Type 0} (m : Parts A) (h : List (Kept A)) (ret : Option Ret) (kind : Dep) (j i : TxnId) → held_ops m (h ++ (record { event = Form kind j i; ret = ret }) ∷ []) ≡ held_ops m h
operations-form {A} m h ret kind j i =
    let k : Kept A = record { event = Form kind j i; ret = ret } in
    shown-push held_op m h k
    ∙ append-nil (map (λ o. held_op o (carried m o.number (standing m h o) (at_end h k))) (operations h))
    ∙ map-same _ _ (λ o. ap (held_op o) (idle (standing m h o).fate (standing m h o).holder)) (operations h)

pub operations-permit : {A : Type 0} (m : Parts A) (h : List (Kept A)) (ret : Option Ret) (t u : TxnId) (ob : ObjId) → held_ops m (h ++ (record { event = Permit t u ob; ret = ret }) ∷ []) ≡ held_ops m h
operations-permit {A} m h ret t u ob =
    let k : Kept A = record { event = Permit t u ob; ret = ret } in
    shown-push held_op m h k
    ∙ append-nil (map (λ o. held_op o (carried m o.number (standing m h o) (at_end h k))) (operations h))
    ∙ map-same _ _ (λ o. ap (held_op o) (idle (standing m h o).fate (standing m h o).holder)) (operations h)

-- an operation is appended, in progress and held by its invoker
pub operations-operate : {A : Type 0} (m : Parts A) (h : List (Kept A)) (ret : Option Ret) (t : TxnId) (ob : ObjId) (op : Op) → held_ops m (h ++ (record { event = Operate t ob op; ret = ret }) ∷ []) ≡ added (held_ops m h) t ob op
operations-operate {A} m h ret t ob op =
    let k : Kept A = record { event = Operate t ob op; ret = ret } in
    shown-push held_op m h k
    ∙ ap (λ items. items ++ (record { ob = ob; op = op; holder = t; fate = InProgress }) ∷ []) (map-same _ _ (λ o. ap (held_op o) (idle (standing m h o).fate (standing m h o).holder)) (operations h))

and_true : (b : Bool) → (b && true) ≡ b
and_true true = refl
and_true false = refl

and_false : (b : Bool) → (b && false) ≡ false
and_false true = refl
and_false false = refl

-- a transfer, by the table and by places
gives : (t : ℕ) (u : TxnId) (b : Bool) (o : Operation) (holder : ℕ) (fate : Fate) → (b ≡ true → ((holder == t) && is_open fate) ≡ true) →
    held_op o (if is_open fate then (if (t == holder) && b then held_by u.0 else held_by holder) else record { holder = holder; fate = fate })
    ≡ (if b then record (held_op o (record { holder = holder; fate = fate })) { holder = u } else held_op o (record { holder = holder; fate = fate }))
gives t u false o holder InProgress held = kept (t == holder)
  where
    kept : (b : Bool) → held_op o (if b && false then held_by u.0 else held_by holder) ≡ held_op o (held_by holder)
    kept true = refl
    kept false = refl
gives t u false o holder Committed held = refl
gives t u false o holder Aborted held = refl
gives t u true o holder InProgress held =
    let same = eqb-true holder t (sym (and_true (holder == t)) ∙ held refl) in
    ap (λ b. held_op o (if b && true then held_by u.0 else held_by holder)) (eq-eqb t holder (sym same))
gives t u true o holder Committed held = absurd (true≢false (sym (held refl) ∙ and_false (holder == t)))
gives t u true o holder Aborted held = absurd (true≢false (sym (held refl) ∙ and_false (holder == t)))

-- the operations after some items, transferred by number
named-transferred : {A : Type 0} (show : Operation → HeldOp) (over : Operation → HeldOp) (holding : HeldOp → Bool) (ops : List OpNo) (u : TxnId) →
    ((o : Operation) → (is_named ops o.number ≡ true → holding (show o) ≡ true) → over o ≡ (if is_named ops o.number then record (show o) { holder = u } else show o)) →
    (before ks : List (Kept A)) → ((i : ℕ) → is_named ops (number_after before + i) ≡ true → option_map_or holding (slice_get (map show (filter_map operation_at (places_after before ks))) i) false ≡ true) →
    map over (filter_map operation_at (places_after before ks)) ≡ moved_from (number_after before) ops u (map show (filter_map operation_at (places_after before ks)))
named-transferred show over holding ops u one before [] held = refl
named-transferred {A} show over holding ops u one before (k ∷ ks) held =
    of_event k.event (number_after-push before k) held
    (named-transferred show over holding ops u one (before ++ k ∷ []) ks)
  where
    of_event : (e : Event A) → number_after (before ++ k ∷ []) ≡ number_after before + cond (is_operate e) 1 0 →
        ((i : ℕ) → is_named ops (number_after before + i) ≡ true → option_map_or holding (slice_get (map show (cons_option (operation_in (record { before = before; kept = k }) e) (filter_map operation_at (places_after (before ++ k ∷ []) ks)))) i) false ≡ true) →
        (((i : ℕ) → is_named ops (number_after (before ++ k ∷ []) + i) ≡ true → option_map_or holding (slice_get (map show (filter_map operation_at (places_after (before ++ k ∷ []) ks))) i) false ≡ true) → map over (filter_map operation_at (places_after (before ++ k ∷ []) ks)) ≡ moved_from (number_after (before ++ k ∷ [])) ops u (map show (filter_map operation_at (places_after (before ++ k ∷ []) ks)))) →
        map over (cons_option (operation_in (record { before = before; kept = k }) e) (filter_map operation_at (places_after (before ++ k ∷ []) ks))) ≡ moved_from (number_after before) ops u (map show (cons_option (operation_in (record { before = before; kept = k }) e) (filter_map operation_at (places_after (before ++ k ∷ []) ks))))
    of_event (Operate t object op) grown held later =
        let none : number_after before ≡ number_after before + 0 = omega arith in
        let here = one _ (λ named. held 0 (sym (ap (is_named ops) none) ∙ named)) in
        let shifted = later (λ i named. held (suc i) (let same : number_after before + suc i ≡ number_after (before ++ k ∷ []) + i = omega (arith, grown) in ap (is_named ops) same ∙ named)) in
        (λ i. here i ∷ (shifted ∙ ap (λ n. moved_from n ops u (map show (filter_map operation_at (places_after (before ++ k ∷ []) ks)))) grown) i)
    of_event _ grown held later =
        let same : number_after (before ++ k ∷ []) ≡ number_after before = omega (arith, grown) in
        later (λ i named. held i (ap (λ n. is_named ops (n + i)) (sym same) ∙ named)) ∙ ap (λ n. moved_from n ops u (map show (filter_map operation_at (places_after (before ++ k ∷ []) ks)))) same

-- a delegation by t of operations that it holds
pub operations-delegate : {A : Type 0} (m : Parts A) (h : List (Kept A)) (ret : Option Ret) (t u : TxnId) (ops : List OpNo) →
    ((n : ℕ) → is_named ops n ≡ true → holds (held_ops m h) t.0 n ≡ true) → held_ops m (h ++ (record { event = Delegate t u ops; ret = ret }) ∷ []) ≡ moved ops u (held_ops m h)
operations-delegate {A} m h ret t u ops held =
    let k : Kept A = record { event = Delegate t u ops; ret = ret } in
    shown-push held_op m h k
    ∙ append-nil (map (λ o. held_op o (carried m o.number (standing m h o) (at_end h k))) (operations h))
    ∙ named-transferred (λ o. held_op o (standing m h o)) (λ o. held_op o (carried m o.number (standing m h o) (at_end h k))) (is_held t.0) ops u
    (λ o named. gives t.0 u (is_named ops o.number) o (standing m h o).holder (standing m h o).fate named)
    [] h (λ i named. let same : 1 + i ≡ suc i = omega arith in held (suc i) (sym (ap (is_named ops) same) ∙ named))

-- a split likewise
pub operations-split : {A : Type 0} (m : Parts A) (h : List (Kept A)) (ret : Option Ret) (t u : TxnId) (class : ClassId) (ops : List OpNo) →
    ((n : ℕ) → is_named ops n ≡ true → holds (held_ops m h) t.0 n ≡ true) → held_ops m (h ++ (record { event = Split t u class ops; ret = ret }) ∷ []) ≡ moved ops u (held_ops m h)
operations-split {A} m h ret t u class ops held =
    let k : Kept A = record { event = Split t u class ops; ret = ret } in
    shown-push held_op m h k
    ∙ append-nil (map (λ o. held_op o (carried m o.number (standing m h o) (at_end h k))) (operations h))
    ∙ named-transferred (λ o. held_op o (standing m h o)) (λ o. held_op o (carried m o.number (standing m h o) (at_end h k))) (is_held t.0) ops u
    (λ o named. gives t.0 u (is_named ops o.number) o (standing m h o).holder (standing m h o).fate named)
    [] h (λ i named. let same : 1 + i ≡ suc i = omega arith in held (suc i) (sym (ap (is_named ops) same) ∙ named))

-- a join of t with u, by the table and by places
transfers : (t v : ℕ) (u : TxnId) (o : Operation) (old : Fate) →
    held_op o (if is_open old then (if t == v then held_by u.0 else held_by v) else record { holder = v; fate = old })
    ≡ transferred_op t u (held_op o (record { holder = v; fate = old }))
transfers t v u o Committed = elim (cases_eq v t) [ inl e ↦ rw (eq-eqb v t e) refl | inr ne ↦ rw (ne_eqb v t ne) refl ]
transfers t v u o Aborted = elim (cases_eq v t) [ inl e ↦ rw (eq-eqb v t e) refl | inr ne ↦ rw (ne_eqb v t ne) refl ]
transfers t v u o InProgress =
    elim (cases_eq v t) [
      | inl e ↦ rw (eq-eqb v t e, eq-eqb t v (sym e)) refl
      | inr ne ↦ let en : t ≡ v → ⊥ = λ e. ne (sym e) in rw (ne_eqb v t ne, ne_eqb t v en) refl
    ]

pub operations-join : {A : Type 0} (m : Parts A) (h : List (Kept A)) (ret : Option Ret) (t u : TxnId) → held_ops m (h ++ (record { event = Join t u; ret = ret }) ∷ []) ≡ transferred t.0 u (held_ops m h)
operations-join {A} m h ret t u =
    let k : Kept A = record { event = Join t u; ret = ret } in
    shown-push held_op m h k
    ∙ append-nil (map (λ o. held_op o (carried m o.number (standing m h o) (at_end h k))) (operations h))
    ∙ map-same _ _ (λ o. transfers t.0 (standing m h o).holder u o (standing m h o).fate) (operations h)
    ∙ sym (map-map (transferred_op t.0 u) (λ o. held_op o (standing m h o)) (operations h))

-- the end of t, by the table and by places
ends : (t u : ℕ) (o : Operation) (fate old : Fate) →
    held_op o (if is_open old then (if t == u then ended_by u fate else held_by u) else record { holder = u; fate = old })
    ≡ ended_op t fate (held_op o (record { holder = u; fate = old }))
ends t u o fate Committed = elim (cases_eq u t) [ inl e ↦ rw (eq-eqb u t e) refl | inr ne ↦ rw (ne_eqb u t ne) refl ]
ends t u o fate Aborted = elim (cases_eq u t) [ inl e ↦ rw (eq-eqb u t e) refl | inr ne ↦ rw (ne_eqb u t ne) refl ]
ends t u o fate InProgress =
    elim (cases_eq u t) [
      | inl e ↦ rw (eq-eqb u t e, eq-eqb t u (sym e)) refl
      | inr ne ↦ let en : t ≡ u → ⊥ = λ e. ne (sym e) in rw (ne_eqb u t ne, ne_eqb t u en) refl
    ]

-- the commit of t by places, given the heirs
abbrev settled_by : (ℕ → Option TxnId) → ℕ → ℕ → Fate → Standing
settled_by heirs t v old =
    if is_open old
    then (if t == v then option_map_or (λ u. held_by u.0) (heirs v) (ended_by v Committed) else held_by v)
    else record { holder = v; fate = old }

-- without an heir its operations are committed
settles : (heirs : ℕ → Option TxnId) (t v : ℕ) (o : Operation) (old : Fate) → heirs t ≡ None → held_op o (settled_by heirs t v old) ≡ ended_op t Committed (held_op o (record { holder = v; fate = old }))
settles heirs t v o Committed none = elim (cases_eq v t) [ inl e ↦ rw (eq-eqb v t e) refl | inr ne ↦ rw (ne_eqb v t ne) refl ]
settles heirs t v o Aborted none = elim (cases_eq v t) [ inl e ↦ rw (eq-eqb v t e) refl | inr ne ↦ rw (ne_eqb v t ne) refl ]
settles heirs t v o InProgress none =
    elim (cases_eq v t) [
      | inl e ↦ rw (eq-eqb v t e, eq-eqb t v (sym e)) (ap (λ u. held_op o (option_map_or (λ w. held_by w.0) u (ended_by v Committed))) (ap heirs e ∙ none))
      | inr ne ↦ let en : t ≡ v → ⊥ = λ e. ne (sym e) in rw (ne_eqb v t ne, ne_eqb t v en) refl
    ]

pub operations-commit : {A : Type 0} (m : Parts A) (h : List (Kept A)) (ret : Option Ret) (t : TxnId) → heir m h t.0 ≡ None → held_ops m (h ++ (record { event = Commit t; ret = ret }) ∷ []) ≡ ended t.0 Committed (held_ops m h)
operations-commit {A} m h ret t none =
    let k : Kept A = record { event = Commit t; ret = ret } in
    shown-push held_op m h k
    ∙ append-nil (map (λ o. held_op o (carried m o.number (standing m h o) (at_end h k))) (operations h))
    ∙ map-same _ _ (λ o. settles (heir m h) t.0 (standing m h o).holder o (standing m h o).fate none) (operations h)
    ∙ sym (map-map (ended_op t.0 Committed) (λ o. held_op o (standing m h o)) (operations h))

-- with an heir they are transferred to it
leaves : (heirs : ℕ → Option TxnId) (t v : ℕ) (u : TxnId) (o : Operation) (old : Fate) → heirs t ≡ Some u → held_op o (settled_by heirs t v old) ≡ transferred_op t u (held_op o (record { holder = v; fate = old }))
leaves heirs t v u o Committed is = elim (cases_eq v t) [ inl e ↦ rw (eq-eqb v t e) refl | inr ne ↦ rw (ne_eqb v t ne) refl ]
leaves heirs t v u o Aborted is = elim (cases_eq v t) [ inl e ↦ rw (eq-eqb v t e) refl | inr ne ↦ rw (ne_eqb v t ne) refl ]
leaves heirs t v u o InProgress is =
    elim (cases_eq v t) [
      | inl e ↦ rw (eq-eqb v t e, eq-eqb t v (sym e)) (ap (λ x. held_op o (option_map_or (λ w. held_by w.0) x (ended_by v Committed))) (ap heirs e ∙ is))
      | inr ne ↦ let en : t ≡ v → ⊥ = λ e. ne (sym e) in rw (ne_eqb v t ne, ne_eqb t v en) refl
    ]

pub operations-inherited : {A : Type 0} (m : Parts A) (h : List (Kept A)) (ret : Option Ret) (t u : TxnId) → heir m h t.0 ≡ Some u → held_ops m (h ++ (record { event = Commit t; ret = ret }) ∷ []) ≡ transferred t.0 u (held_ops m h)
operations-inherited {A} m h ret t u is =
    let k : Kept A = record { event = Commit t; ret = ret } in
    shown-push held_op m h k
    ∙ append-nil (map (λ o. held_op o (carried m o.number (standing m h o) (at_end h k))) (operations h))
    ∙ map-same _ _ (λ o. leaves (heir m h) t.0 (standing m h o).holder u o (standing m h o).fate is) (operations h)
    ∙ sym (map-map (transferred_op t.0 u) (λ o. held_op o (standing m h o)) (operations h))

pub operations-abort : {A : Type 0} (m : Parts A) (h : List (Kept A)) (ret : Option Ret) (t : TxnId) → held_ops m (h ++ (record { event = Abort t; ret = ret }) ∷ []) ≡ ended t.0 Aborted (held_ops m h)
operations-abort {A} m h ret t =
    let k : Kept A = record { event = Abort t; ret = ret } in
    shown-push held_op m h k
    ∙ append-nil (map (λ o. held_op o (carried m o.number (standing m h o) (at_end h k))) (operations h))
    ∙ map-same _ _ (λ o. ends t.0 (standing m h o).holder o Aborted (standing m h o).fate) (operations h)
    ∙ sym (map-map (ended_op t.0 Aborted) (λ o. held_op o (standing m h o)) (operations h))
