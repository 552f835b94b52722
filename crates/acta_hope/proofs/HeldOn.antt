-- An operation whose holder can't release it is held by it for ever.
use Rattle.std.proofs.Common.{◌≡◌, ℕ, zero, suc, ◌+◌, Bool, true, false, ◌==◌, ◌&&◌, ◌||◌, not, List, [], ◌∷◌, ◌++◌, map, Option, Some, None, is_some, refl, sym, ap, ◌∙◌, subst, inl, inr, eqb-true, eq-eqb, arith}
use Rattle.std.specs.Prelude.{if◌then◌else◌, option_and_then, option_map, slice_get}
use Rattle.std.specs.List.{AllByRecursion, list_any}
use Rattle.std.specs.Option.{option_map_or}
use Rattle.std.proofs.lemmas.Bool.{true≢false, and_parts, or_cases}
use Rattle.std.proofs.lemmas.Option.{same_Some}
use Rattle.acta_table.specs.declared.answer.Fate.{Fate}
use Rattle.acta_table.specs.declared.answer.Fate.TheVariants.{Committed, Aborted}
use Rattle.acta_table.specs.declared.answer.Refusal.{Refusal}
use Rattle.acta_table.specs.declared.answer.Rule.TheVariants.{NotInModel, NotInProgress, Conflict}
use Rattle.acta_table.specs.declared.answer.Status.TheVariants.{InProgress, Committed as has_committed}
use Rattle.acta_table.specs.declared.event.EventKind.{EventKind}
use Rattle.acta_table.specs.declared.event.EventKind.TheVariants as kind
use Rattle.acta_table.specs.declared.event.Event.{Event}
use Rattle.acta_table.specs.declared.event.Event.TheVariants as event
use Rattle.acta_table.specs.declared.event.ObjId.{ObjId}
use Rattle.acta_table.specs.declared.event.Op.{Op}
use Rattle.acta_table.specs.declared.event.OpNo.{OpNo}
use Rattle.acta_table.specs.declared.event.TxnId.{TxnId}
use Rattle.acta_table.specs.declared.model.Class.{Class}
use Rattle.acta_table.specs.declared.model.Parts.{Parts}
use Rattle.acta_table.specs.Classes.{can_do, class_at, exempts}
use Rattle.acta_table.specs.Events.{acting, operations_named}
use Rattle.acta_table.specs.Fates.{is_open}
use Rattle.acta_table.specs.Sets.{is_named, numbers_of}
use Rattle.acta_deps.specs.Statuses.{has_begun}
use Rattle.acta_sets.specs.declared.held_op.HeldOp.{HeldOp}
use Rattle.acta_sets.specs.Operations.{is_among, is_held, operation_at, ended_op, transferred_op, moved_from, moved}
use Rattle.acta_sets.specs.Permits.{without_permits}
use Rattle.acta_objects.specs.Conflicts.{conflict_on}
use Rattle.acta_machine.specs.Changes.{effect, settled}
use Rattle.acta_machine.specs.Conflicts.{stands_against}
use Rattle.acta_machine.specs.Families.{ancestors_of, has_class, heir_of, exempt}
use Rattle.acta_machine.specs.Rules.{class_may, conflict, lowest_broken, is_allowed, not_in_model, not_in_progress, txn_may}
use Rattle.acta_machine.specs.Summary.{Summary, stood, terminated, permit_given, entered, linked, given, inherited, operated, fated, counted}
use Rattle.acta_machine.specs.Table.{State, after, after_all, kept_as, moved_on, refusal_in}
use Rattle.acta_machine.specs.declared.reason.NumberedOp.{NumberedOp}
use Rattle.acta_machine.proofs.Broken.{in_progress, not_broken}
use Rattle.acta_machine.proofs.Histories.{summary_more}
use Rattle.acta_machine.proofs.Unbroken.{unbroken, none-earlier}
use Rattle.acta_hope.specs.Growth.{IsLater}
use Rattle.acta_hope.specs.Hopes.{IsHopeless, is_blocking}
use Rattle.acta_hope.specs.Parts.{holds_on, is_held_on, exempts_none}
use Rattle.acta_hope.proofs.Growth.{summary_in, model-after, later-after, later-after_all}
use Rattle.acta_hope.proofs.Hopes.{held-then, is_something, only-later}
use Rattle.acta_hope.proofs.Releasing.{mapped-at, moved-got, not-eqb}
use Rattle.acta_hope.proofs.Standing.{has-stays, conflict-gone, conflict-stands}

-- a transaction does no event that its class does not allow

allowed : {A : Type 0} (m : Parts A) (s : Summary) (e : Event A) → lowest_broken m s e ≡ None → is_allowed m s e ≡ true
unfolding not_in_model
allowed m s e none = not_broken (is_allowed m s e) NotInModel (unbroken m s e (none-earlier m s e none)).model

-- so another transaction does it
apart : {A : Type 0} (m : Parts A) (s : Summary) (h u : ℕ) (k : EventKind) → txn_may m s h k ≡ false → txn_may m s u k ≡ true → h ≡ u → ⊥
apart m s h u k lacks may same = true≢false (sym may ∙ ap (λ x. txn_may m s x k) (sym same) ∙ lacks)

-- one operation

kept-by : (f : HeldOp → HeldOp) (ops : List HeldOp) (n : ℕ) (i : HeldOp) → operation_at ops n ≡ Some i → f i ≡ i → operation_at (map f ops) n ≡ Some i
kept-by f ops n i at same = mapped-at f ops n i at ∙ ap Some same

not-held-by : (i : HeldOp) (u : ℕ) → (i.holder.0 == u) ≡ false → is_held u i ≡ false
not-held-by i u other = λ k. other k && is_open i.fate

ended-stays : (i : HeldOp) (u : ℕ) (fate : Fate) → (i.holder.0 == u) ≡ false → ended_op u fate i ≡ i
ended-stays i u fate other = λ k. if not-held-by i u other k then record i { fate = fate } else i

transferred-stays : (i : HeldOp) (u : ℕ) (v : TxnId) → (i.holder.0 == u) ≡ false → transferred_op u v i ≡ i
transferred-stays i u v other = λ k. if not-held-by i u other k then record i { holder = v } else i

moved-stays : (ops : List OpNo) (v : TxnId) (is : List HeldOp) (n : ℕ) (i : HeldOp) → operation_at is n ≡ Some i → is_named ops n ≡ false → operation_at (moved ops v is) n ≡ Some i
moved-stays ops v is zero i at off = cc
moved-stays ops v is (suc k) i at off =
    let same : 1 + k ≡ suc k = omega arith in
    moved-got 1 ops v is k i at ∙ ap (λ b. Some (if b then record i { holder = v } else i)) (ap (is_named ops) same ∙ off)

got-before : (is js : List HeldOp) (k : ℕ) (i : HeldOp) → slice_get is k ≡ Some i → slice_get (is ++ js) k ≡ Some i
got-before [] js k i at = cc
got-before (x ∷ is) js zero i at = at
got-before (x ∷ is) js (suc k) i at = got-before is js k i at

added-stays : (is js : List HeldOp) (n : ℕ) (i : HeldOp) → operation_at is n ≡ Some i → operation_at (is ++ js) n ≡ Some i
added-stays is js zero i at = cc
added-stays is js (suc k) i at = got-before is js k i at

-- a property of all named numbers
of-all : (Q : ℕ → Type 0) (ops : List OpNo) (n : ℕ) → AllByRecursion Q (numbers_of ops) → is_named ops n ≡ true → Q n
of-all Q [] n all named = cc
of-all Q (o ∷ ops) n all named =
    elim (or_cases (o.0 == n) (is_named ops n) named) [
      | inl here ↦ subst Q (eqb-true o.0 n here) all.0
      | inr there ↦ of-all Q ops n all.1 there
    ]

-- an event names it only if the acting transaction holds it
not-named : {A : Type 0} (m : Parts A) (s : Summary) (e : Event A) (u n : ℕ) (i : HeldOp) → lowest_broken m s e ≡ None → acting e ≡ Some u → operation_at s.operations n ≡ Some i → (i.holder.0 == u) ≡ false → is_named (operations_named e) n ≡ false
not-named m s e u n i none acts at other = of (is_named (operations_named e) n) refl
  where
    of : (b : Bool) → is_named (operations_named e) n ≡ b → b ≡ false
    of false is = refl
    of true is =
        let held = of-all (λ k. option_map_or (is_held u) (operation_at s.operations k) false ≡ true) (operations_named e) n (held-then m s e u acts s none) is in
        absurd (true≢false (sym held ∙ ap (λ o. option_map_or (is_held u) o false) at ∙ not-held-by i u other))

module _ (n : ℕ) (i : HeldOp) (t : ℕ) where
  -- the operation has its number, and its holder has permitted t nothing there
  pub record IsKept (s : Summary) : Type 0 where
    pub at : operation_at s.operations n ≡ Some i
    pub unpermitted : s.permits i.holder.0 t i.ob.0 ≡ false

left-off : (a b c : Bool) → a ≡ false → (a && b && c) ≡ false
left-off true b c is = cc
left-off false b c is = refl

or-off : (a b c d : Bool) → a ≡ false → b ≡ false → (a || (b && c && d)) ≡ false
or-off true b c d is_a is_b = cc
or-off false true c d is_a is_b = cc
or-off false false c d is_a is_b = refl

not-true : (b : Bool) → not b ≡ true → b ≡ false
not-true true e = cc
not-true false e = refl

unpermitted-of : (a b c d e f : Bool) → (a && b && c && not d && e && f) ≡ true → d ≡ false
unpermitted-of a b c d e f is = not-true d (and_parts (a && b && c) (not d) (and_parts (a && b && c && not d) e (and_parts (a && b && c && not d && e) f is).0).0).1

-- the events that the holder's class does not allow
record Lacks {A : Type 0} (m : Parts A) (s : Summary) (h : ℕ) : Type 0 where
  begun : has_begun (s.status h) ≡ true
  commit : txn_may m s h kind.Commit ≡ false
  abort : txn_may m s h kind.Abort ≡ false
  join : txn_may m s h kind.Join ≡ false
  delegate : txn_may m s h kind.Delegate ≡ false
  split : txn_may m s h kind.Split ≡ false
  permit : txn_may m s h kind.Permit ≡ false

lacks-of : {A : Type 0} (m : Parts A) (s : Summary) (h : ℕ) → holds_on m s h ≡ true → Lacks m s h
lacks-of m s h is =
    let begun = has_begun (s.status h) in
    let c = not (txn_may m s h kind.Commit) in
    let a = not (txn_may m s h kind.Abort) in
    let j = not (txn_may m s h kind.Join) in
    let d = not (txn_may m s h kind.Delegate) in
    let p = not (txn_may m s h kind.Split) in
    let q = not (txn_may m s h kind.Permit) in
    let p6 = and_parts (begun && c && a && j && d && p) q is in
    let p5 = and_parts (begun && c && a && j && d) p p6.0 in
    let p4 = and_parts (begun && c && a && j) d p5.0 in
    let p3 = and_parts (begun && c && a) j p4.0 in
    let p2 = and_parts (begun && c) a p3.0 in
    let p1 = and_parts begun c p2.0 in
    record {
      begun = p1.0;
      commit = not-true (txn_may m s h kind.Commit) p1.1;
      abort = not-true (txn_may m s h kind.Abort) p2.1;
      join = not-true (txn_may m s h kind.Join) p3.1;
      delegate = not-true (txn_may m s h kind.Delegate) p4.1;
      split = not-true (txn_may m s h kind.Split) p5.1;
      permit = not-true (txn_may m s h kind.Permit) p6.1;
    }

may-stays : {A : Type 0} (m : Parts A) (s l : Summary) → IsLater s l → (h : ℕ) (k : EventKind) → has_begun (s.status h) ≡ true → txn_may m l h k ≡ txn_may m s h k
may-stays m s l later h k begun = ap (λ c. option_map_or (can_do k) (option_and_then (λ d. class_at m d.0) c) false) (later.class h begun)

lacks-later : {A : Type 0} (m : Parts A) (s l : Summary) → IsLater s l → (h : ℕ) → Lacks m s h → Lacks m l h
lacks-later m s l later h lacks = record {
  begun = later.begun h lacks.begun;
  commit = may-stays m s l later h kind.Commit lacks.begun ∙ lacks.commit;
  abort = may-stays m s l later h kind.Abort lacks.begun ∙ lacks.abort;
  join = may-stays m s l later h kind.Join lacks.begun ∙ lacks.join;
  delegate = may-stays m s l later h kind.Delegate lacks.begun ∙ lacks.delegate;
  split = may-stays m s l later h kind.Split lacks.begun ∙ lacks.split;
  permit = may-stays m s l later h kind.Permit lacks.begun ∙ lacks.permit;
}

module _ {A : Type 0} (n : ℕ) (i : HeldOp) (t : ℕ) (m : Parts A) (s : Summary) (kept : IsKept n i t s) (lacks : Lacks m s i.holder.0) where
  abbrev h : ℕ
  h = i.holder.0

  -- after u has ended, and what it held has been changed so
  ended-keeps : (u : ℕ) (l : Summary) (f : HeldOp → HeldOp) → f i ≡ i → l.operations ≡ map f s.operations → l.permits ≡ without_permits s.permits u → IsKept n i t l
  ended-keeps u l f same ops permits = record {
    at = ap (λ xs. operation_at xs n) ops ∙ kept-by f s.operations n i kept.at same;
    unpermitted = (λ k. permits k h t i.ob.0) ∙ left-off (s.permits h t i.ob.0) (not (h == u)) (not (t == u)) kept.unpermitted;
  }

  -- an event that breaks no rule keeps it
  still-kept : (e : Event A) → lowest_broken m s e ≡ None → IsKept n i t (effect m s e)
  unfolding stood terminated permit_given entered linked given inherited operated fated counted
  still-kept (event.Begin u class) none = record { at = kept.at; unpermitted = kept.unpermitted }
  still-kept (event.Spawn u c class) none = record { at = kept.at; unpermitted = kept.unpermitted }
  still-kept (event.Split u v class ops) none =
      let may = (and_parts (class_may m class.0 kind.Split) (txn_may m s u.0 kind.Split) (allowed m s (event.Split u v class ops) none)).1 in
      let other = not-eqb h u.0 (apart m s h u.0 kind.Split lacks.split may) in
      record {
        at = moved-stays ops v s.operations n i kept.at (not-named m s (event.Split u v class ops) u.0 n i none refl kept.at other);
        unpermitted = kept.unpermitted;
      }
  still-kept (event.Join u v) none =
      let other = not-eqb h u.0 (apart m s h u.0 kind.Join lacks.join (allowed m s (event.Join u v) none)) in
      ended-keeps u.0 (effect m s (event.Join u v)) (transferred_op u.0 v) (transferred-stays i u.0 v other) refl refl
  still-kept (event.Delegate u v ops) none =
      let other = not-eqb h u.0 (apart m s h u.0 kind.Delegate lacks.delegate (allowed m s (event.Delegate u v ops) none)) in
      record {
        at = moved-stays ops v s.operations n i kept.at (not-named m s (event.Delegate u v ops) u.0 n i none refl kept.at other);
        unpermitted = kept.unpermitted;
      }
  still-kept (event.Form k u v) none = record { at = kept.at; unpermitted = kept.unpermitted }
  still-kept (event.Operate u ob op) none = record { at = added-stays s.operations _ n i kept.at; unpermitted = kept.unpermitted }
  still-kept (event.Commit u) none = of (heir_of m s u.0)
    where
      other : (h == u.0) ≡ false
      other = not-eqb h u.0 (apart m s h u.0 kind.Commit lacks.commit (allowed m s (event.Commit u) none))

      of : (heir : Option TxnId) → IsKept n i t (counted (settled (terminated (linked s []) u has_committed) u heir))
      of None = ended-keeps u.0 (counted (settled (terminated (linked s []) u has_committed) u None)) (ended_op u.0 Committed) (ended-stays i u.0 Committed other) refl refl
      of (Some v) = ended-keeps u.0 (counted (settled (terminated (linked s []) u has_committed) u (Some v))) (transferred_op u.0 v) (transferred-stays i u.0 v other) refl refl
  still-kept (event.Abort u) none =
      let other = not-eqb h u.0 (apart m s h u.0 kind.Abort lacks.abort (allowed m s (event.Abort u) none)) in
      ended-keeps u.0 (effect m s (event.Abort u)) (ended_op u.0 Aborted) (ended-stays i u.0 Aborted other) refl refl
  still-kept (event.Permit u v ob) none =
      let other = not-eqb u.0 h (λ same. apart m s h u.0 kind.Permit lacks.permit (allowed m s (event.Permit u v ob) none) (sym same)) in
      record {
        at = kept.at;
        unpermitted = or-off (s.permits h t i.ob.0) (u.0 == h) (v.0 == t) (ob.0 == i.ob.0) kept.unpermitted other;
      }

-- and so of a machine

module _ {A : Type 0} (n : ℕ) (i : HeldOp) (t : ℕ) where
  kept-moved : (state : State A) (e : Event A) (r : Option Refusal) → lowest_broken state.model (summary_in state) e ≡ r → IsKept n i t (summary_in state) → Lacks state.model (summary_in state) i.holder.0 → IsKept n i t (summary_in (moved_on state e r))
  kept-moved state e (Some r) broken kept lacks = kept
  kept-moved state e None none kept lacks =
      subst (IsKept n i t) (sym (summary_more state.model state.kept (kept_as state e))) (still-kept n i t state.model (summary_in state) kept lacks e none)

  kept-after : (state : State A) (e : Event A) → IsKept n i t (summary_in state) → Lacks state.model (summary_in state) i.holder.0 → IsKept n i t (summary_in (after state e))
  unfolding after
  kept-after state e = kept-moved state e (lowest_broken state.model (summary_in state) e) refl

  lacks-after : (state : State A) (e : Event A) → Lacks state.model (summary_in state) i.holder.0 → Lacks (after state e).model (summary_in (after state e)) i.holder.0
  lacks-after state e lacks =
      subst (λ (m : Parts A). Lacks m (summary_in (after state e)) i.holder.0) (sym (model-after state e))
      (lacks-later state.model (summary_in state) (summary_in (after state e)) (later-after state e) i.holder.0 lacks)

  kept-on : (state : State A) → IsKept n i t (summary_in state) → Lacks state.model (summary_in state) i.holder.0 → (es : List (Event A)) → IsKept n i t (summary_in (after_all state es))
  kept-on state kept lacks [] = kept
  kept-on state kept lacks (e ∷ es) = kept-on (after state e) (kept-after state e kept lacks) (lacks-after state e lacks) es

exempt-none : {A : Type 0} (m : Parts A) (s : Summary) (t : ℕ) → has_class (λ k. exempts k.scope) m s t ≡ false → exempt m s t ≡ []
exempt-none m s t is = λ k. if is k then ancestors_of s t else []

-- an operation that blocks the event, and whose holder can't release it, blocks it for ever
pub held-on : {A : Type 0} (state : State A) (t : TxnId) (ob : ObjId) (op : Op) (n : ℕ) (i : HeldOp) →
    operation_at (summary_in state).operations n ≡ Some i → stands_against state.model (summary_in state) t.0 ob op i ≡ true → (summary_in state).status t.0 ≡ InProgress →
    is_held_on state.model (summary_in state) (event.Operate t ob op) i.holder.0 ≡ true →
    (es : List (Event A)) → is_blocking state.model (summary_in (after_all state es)) (event.Operate t ob op) n ≡ true
held-on {A} state t ob op n i at stands on holds es =
    ap (λ o. option_map_or (stands_against m l t.0 ob op) o false) later_kept.at ∙ same ∙ stands
  where
    m : Parts A
    m = state.model

    s : Summary
    s = summary_in state

    l : Summary
    l = summary_in (after_all state es)

    both : (exempts_none m s t.0 ≡ true) × (holds_on m s i.holder.0 ≡ true)
    both = and_parts (exempts_none m s t.0) (holds_on m s i.holder.0) holds

    none_exempt : has_class (λ k. exempts k.scope) m s t.0 ≡ false
    none_exempt = not-true (has_class (λ k. exempts k.scope) m s t.0) both.0

    permits_not : s.permits i.holder.0 t.0 i.ob.0 ≡ false
    permits_not = unpermitted-of (is_open i.fate) (not (i.holder.0 == t.0)) (not (is_among (exempt m s t.0) i.holder)) (s.permits i.holder.0 t.0 i.ob.0) (i.ob.0 == ob.0) (conflict_on m ob.0 i.op op) stands

    later_kept : IsKept n i t.0 l
    later_kept = kept-on n i t.0 state (record { at = at; unpermitted = permits_not }) (lacks-of m s i.holder.0 both.1) es

    sp : exempt m l t.0 ≡ exempt m s t.0
    sp = exempt-none m l t.0 (has-stays (λ k. exempts k.scope) m s l (later-after_all state es) t.0 on ∙ none_exempt) ∙ sym (exempt-none m s t.0 none_exempt)

    pm : l.permits i.holder.0 t.0 i.ob.0 ≡ s.permits i.holder.0 t.0 i.ob.0
    pm = later_kept.unpermitted ∙ sym permits_not

    same : stands_against m l t.0 ob op i ≡ stands_against m s t.0 ob op i
    same = λ k. is_open i.fate && not (i.holder.0 == t.0) && not (is_among (sp k) i.holder) && not (pm k) && (i.ob.0 == ob.0) && conflict_on m ob.0 i.op op

-- so there is no hope
pub held-never : {A : Type 0} (state : State A) (e : Event A) (op : NumberedOp) → is_held_on state.model (summary_in state) e op.held.holder.0 ≡ true → operation_at (summary_in state).operations op.number.0 ≡ Some op.held → (conflict state.model (summary_in state) e ≡ Some (record { rule = Conflict; by = Some op.number.0 })) × (not_in_progress (summary_in state) e ≡ None) → IsHopeless state e
unfolding not_in_progress
held-never {A} state (event.Operate t ob op) one holds at broken = λ es. is_something (refusal_in (after_all state es) (event.Operate t ob op)) (λ none.
    let s = summary_in state in
    let e : Event A = event.Operate t ob op in
    let on = in_progress s NotInProgress t.0 broken.1 in
    let stands = conflict-stands state.model s e one.number.0 one.held at broken.0 in
    let here = sym (ap (λ o. option_map_or (stands_against state.model s t.0 ob op) o false) at) ∙ stands in
    let there = held-on state t ob op one.number.0 one.held at here on holds es in
    let gone = only-later state e (λ l. is_blocking state.model l e one.number.0 ≡ false) (conflict-gone state.model s e one.number.0 broken) es none in
    true≢false (sym there ∙ gone))
held-never state (event.Begin t class) one holds at broken = absurd (true≢false (sym holds))
held-never state (event.Spawn t c class) one holds at broken = absurd (true≢false (sym holds))
held-never state (event.Split t u class ops) one holds at broken = absurd (true≢false (sym holds))
held-never state (event.Join t u) one holds at broken = absurd (true≢false (sym holds))
held-never state (event.Delegate t u ops) one holds at broken = absurd (true≢false (sym holds))
held-never state (event.Form kind j i) one holds at broken = absurd (true≢false (sym holds))
held-never state (event.Commit t) one holds at broken = absurd (true≢false (sym holds))
held-never state (event.Abort t) one holds at broken = absurd (true≢false (sym holds))
held-never state (event.Permit t u ob) one holds at broken = absurd (true≢false (sym holds))
