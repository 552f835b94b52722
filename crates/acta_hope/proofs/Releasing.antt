-- Right after its holder has released it, the operation no longer blocks the event.
use Rattle.std.proofs.Common.{◌≡◌, ◌<◌, ℕ, zero, suc, ◌+◌, ◌-◌, Bool, true, false, ◌==◌, ◌&&◌, ◌||◌, not, List, [], ◌∷◌, ◌++◌, map, Option, Some, None, refl, sym, ap, ◌∙◌, subst, inl, inr, eqb-true, eq-eqb, arith}
use Rattle.std.specs.Prelude.{if◌then◌else◌, option_map, slice_get}
use Rattle.std.specs.Option.{option_map_or}
use Rattle.std.proofs.lemmas.Bool.{true≢false, and_parts, or_cases}
use Rattle.std.proofs.lemmas.Option.{same_Some, slice_get-map}
use Rattle.acta_table.specs.declared.answer.Fate.{Fate}
use Rattle.acta_table.specs.declared.answer.Fate.TheVariants.{Committed, Aborted}
use Rattle.acta_table.specs.declared.answer.Refusal.{Refusal}
use Rattle.acta_table.specs.declared.answer.Status.TheVariants.{Committed as has_committed}
use Rattle.acta_table.specs.declared.event.EventKind.TheVariants as kind
use Rattle.acta_table.specs.declared.event.Event.{Event}
use Rattle.acta_table.specs.declared.event.Event.TheVariants as event
use Rattle.acta_table.specs.declared.event.ObjId.{ObjId}
use Rattle.acta_table.specs.declared.event.Op.{Op}
use Rattle.acta_table.specs.declared.event.OpNo.{OpNo}
use Rattle.acta_table.specs.declared.event.TxnId.{TxnId}
use Rattle.acta_table.specs.declared.model.Parts.{Parts}
use Rattle.acta_table.specs.Ancestors.{ancestors_from}
use Rattle.acta_table.specs.Classes.{exempts}
use Rattle.acta_table.specs.Fates.{is_open}
use Rattle.acta_table.specs.Events.{acting}
use Rattle.acta_table.specs.Sets.{is_named}
use Rattle.acta_sets.specs.declared.held_op.HeldOp.{HeldOp}
use Rattle.acta_sets.specs.Operations.{is_among, is_held, operation_at, ended_op, transferred_op, moved_from, moved}
use Rattle.acta_objects.specs.Conflicts.{conflict_on}
use Rattle.acta_machine.specs.Changes.{effect, settled, summary_of}
use Rattle.acta_machine.specs.Conflicts.{stands_against}
use Rattle.acta_machine.specs.Families.{has_class, heir_of, exempt}
use Rattle.acta_machine.specs.Rules.{lowest_broken, txn_may}
use Rattle.acta_machine.specs.Summary.{Summary, terminated, permit_given, linked, given, inherited, fated, counted}
use Rattle.acta_machine.specs.Table.{State, after, kept_as, moved_on, operations_in, refusal_in}
use Rattle.acta_machine.proofs.Histories.{summary_more}
use Rattle.acta_hope.specs.Hopes.{is_blocking, is_blocking_in}
use Rattle.acta_hope.specs.Releases.{is_exempt, frees_at_commit, may_release, may_be_released, IsRelease, IsReleased}
use Rattle.acta_hope.specs.declared.releases.Release.{Release}
use Rattle.acta_hope.specs.declared.releases.Release.TheVariants.{Commit, Abort, Delegate, Join, Permit}
use Rattle.acta_hope.proofs.Counting.{right-true}
use Rattle.acta_hope.proofs.Growth.{summary_in}

-- one of the tests fails

off-1 : (a b c d e f : Bool) → a ≡ false → (a && b && c && d && e && f) ≡ false
off-1 true b c d e f is = cc
off-1 false b c d e f is = refl

off-2 : (a b c d e f : Bool) → b ≡ true → (a && not b && c && d && e && f) ≡ false
off-2 false b c d e f is = refl
off-2 true true c d e f is = refl
off-2 true false c d e f is = cc

off-3 : (a b c d e f : Bool) → c ≡ true → (a && b && not c && d && e && f) ≡ false
off-3 false b c d e f is = refl
off-3 true false c d e f is = refl
off-3 true true true d e f is = refl
off-3 true true false d e f is = cc

off-4 : (a b c d e f : Bool) → d ≡ true → (a && b && c && not d && e && f) ≡ false
off-4 false b c d e f is = refl
off-4 true false c d e f is = refl
off-4 true true false d e f is = refl
off-4 true true true true e f is = refl
off-4 true true true false e f is = cc

module _ {A : Type 0} (m : Parts A) (l : Summary) (t : ℕ) (ob : ObjId) (op : Op) where
  closed-off : (i : HeldOp) → is_open i.fate ≡ false → stands_against m l t ob op i ≡ false
  closed-off i is = off-1 (is_open i.fate) _ _ _ _ _ is

  own-off : (i : HeldOp) → (i.holder.0 == t) ≡ true → stands_against m l t ob op i ≡ false
  own-off i is = off-2 _ (i.holder.0 == t) _ _ _ _ is

  exempt-off : (i : HeldOp) → is_among (exempt m l t) i.holder ≡ true → stands_against m l t ob op i ≡ false
  exempt-off i is = off-3 (is_open i.fate) (not (i.holder.0 == t)) (is_among (exempt m l t) i.holder) (not (l.permits i.holder.0 t i.ob.0)) (i.ob.0 == ob.0) (conflict_on m ob.0 i.op op) is

  permitted-off : (i : HeldOp) → l.permits i.holder.0 t i.ob.0 ≡ true → stands_against m l t ob op i ≡ false
  permitted-off i is = off-4 (is_open i.fate) (not (i.holder.0 == t)) (not (is_among (exempt m l t) i.holder)) (l.permits i.holder.0 t i.ob.0) (i.ob.0 == ob.0) (conflict_on m ob.0 i.op op) is

  at-off : (n : ℕ) (i : HeldOp) → operation_at l.operations n ≡ Some i → stands_against m l t ob op i ≡ false → option_map_or (stands_against m l t ob op) (operation_at l.operations n) false ≡ false
  at-off n i at off = ap (λ o. option_map_or (stands_against m l t ob op) o false) at ∙ off

-- the operation of a number, after a change of each

same_number : (n : ℕ) → (n == n) ≡ true
same_number n = eq-eqb n n refl

pub mapped-at : (f : HeldOp → HeldOp) (is : List HeldOp) (n : ℕ) (i : HeldOp) → operation_at is n ≡ Some i → operation_at (map f is) n ≡ Some (f i)
mapped-at f is zero i at = cc
mapped-at f is (suc k) i at = slice_get-map f is k ∙ ap (option_map f) at

pub moved-got : (k : ℕ) (ops : List OpNo) (u : TxnId) (is : List HeldOp) (j : ℕ) (i : HeldOp) → slice_get is j ≡ Some i → slice_get (moved_from k ops u is) j ≡ Some (if is_named ops (k + j) then record i { holder = u } else i)
moved-got k ops u [] j i at = cc
moved-got k ops u (x ∷ is) zero i at =
    let same : k ≡ k + 0 = omega arith in
    λ p. Some (if is_named ops (same p) then record (same_Some x i at p) { holder = u } else same_Some x i at p)
moved-got k ops u (x ∷ is) (suc j) i at =
    let same : (k + 1) + j ≡ k + suc j = omega arith in
    moved-got (k + 1) ops u is j i at ∙ ap (λ n. Some (if is_named ops n then record i { holder = u } else i)) same

moved-at : (ops : List OpNo) (u : TxnId) (is : List HeldOp) (n : ℕ) (i : HeldOp) → operation_at is n ≡ Some i → is_named ops n ≡ true → operation_at (moved ops u is) n ≡ Some (record i { holder = u })
moved-at ops u is zero i at named = cc
moved-at ops u is (suc k) i at named =
    let same : 1 + k ≡ suc k = omega arith in
    moved-got 1 ops u is k i at ∙ ap (λ b. Some (if b then record i { holder = u } else i)) (ap (is_named ops) same ∙ named)

-- an operation that its holder has ended is not in progress
ended-closed : (fate : Fate) → is_open fate ≡ false → (i : HeldOp) → is_open (ended_op i.holder.0 fate i).fate ≡ false
ended-closed fate closed i = of (i.holder.0 == i.holder.0) (is_open i.fate) (same_number i.holder.0) refl
  where
    of : (a b : Bool) → a ≡ true → is_open i.fate ≡ b → is_open (if a && b then record i { fate = fate } else i).fate ≡ false
    of true true own is = closed
    of true false own is = is
    of false b own is = cc

-- an operation that was delegated has the new holder, if it is in progress
transferred-then : (P : HeldOp → Type 0) (u : TxnId) (i : HeldOp) → (is_open i.fate ≡ false → P i) → P (record i { holder = u }) → P (transferred_op i.holder.0 u i)
transferred-then P u i over held = of (i.holder.0 == i.holder.0) (is_open i.fate) (same_number i.holder.0) refl
  where
    of : (a b : Bool) → a ≡ true → is_open i.fate ≡ b → P (if a && b then record i { holder = u } else i)
    of true true own is = held
    of true false own is = over is
    of false b own is = cc

-- along the line of ancestors

pub not-eqb : (n k : ℕ) → (n ≡ k → ⊥) → (n == k) ≡ false
not-eqb n k other = of (n == k) refl
  where
    of : (b : Bool) → (n == k) ≡ b → b ≡ false
    of true is = absurd (other (eqb-true n k is))
    of false is = refl

pub line-here : (n : ℕ) (parent : ℕ → Option TxnId) (o : Option TxnId) (p u : TxnId) → 0 < n → o ≡ Some p → (p.0 == u.0) ≡ true → is_among (ancestors_from n parent o) u ≡ true
line-here zero parent o p u some is here = absurd (omega (arith, some))
line-here (suc n) parent None p u some is here = cc
line-here (suc n) parent (Some q) p u some is here = of (q.0 == u.0) (ap (λ (v : TxnId). v.0 == u.0) (same_Some q p is) ∙ here)
  where
    of : (b : Bool) → b ≡ true → (b || is_among (ancestors_from n parent (parent q.0)) u) ≡ true
    of true is = refl
    of false is = cc

line-next : (n : ℕ) (parent : ℕ → Option TxnId) (o : Option TxnId) (p u : TxnId) → o ≡ Some p → (p.0 == u.0) ≡ false → is_among (ancestors_from n parent (parent p.0)) u ≡ is_among (ancestors_from (suc n) parent o) u
line-next n parent None p u is not = cc
line-next n parent (Some q) p u is not = of (q.0 == u.0) (ap (λ (v : TxnId). v.0 == u.0) (same_Some q p is) ∙ not) (ap (λ (v : TxnId). is_among (ancestors_from n parent (parent v.0)) u) (sym (same_Some q p is)))
  where
    of : (b : Bool) → b ≡ false → is_among (ancestors_from n parent (parent p.0)) u ≡ is_among (ancestors_from n parent (parent q.0)) u → is_among (ancestors_from n parent (parent p.0)) u ≡ (b || is_among (ancestors_from n parent (parent q.0)) u)
    of true is same = cc
    of false is same = same

pub line-on : (n k : ℕ) (parent : ℕ → Option TxnId) (o next : Option TxnId) (p u : TxnId) → k < n → o ≡ Some p → next ≡ parent p.0 → (p.0 == u.0) ≡ false → is_among (ancestors_from (n - (k + 1)) parent next) u ≡ is_among (ancestors_from (n - k) parent o) u
line-on n k parent o next p u low is goes not =
    let same : suc (n - (k + 1)) ≡ n - k = omega (arith, low) in
    ap (λ x. is_among (ancestors_from (n - (k + 1)) parent x) u) goes
    ∙ line-next (n - (k + 1)) parent o p u is not
    ∙ ap (λ j. is_among (ancestors_from j parent o) u) same

-- more ancestors may be met in one more step

line-more : (n : ℕ) (parent : ℕ → Option TxnId) (o : Option TxnId) (u : TxnId) → is_among (ancestors_from n parent o) u ≡ true → is_among (ancestors_from (suc n) parent o) u ≡ true
line-more n parent None u is = cc
line-more zero parent (Some p) u is = cc
line-more (suc n) parent (Some p) u is = of (p.0 == u.0) is (line-more n parent (parent p.0) u)
  where
    of : (b : Bool) → (b || is_among (ancestors_from n parent (parent p.0)) u) ≡ true → (is_among (ancestors_from n parent (parent p.0)) u ≡ true → is_among (ancestors_from (suc n) parent (parent p.0)) u ≡ true) → (b || is_among (ancestors_from (suc n) parent (parent p.0)) u) ≡ true
    of true is more = refl
    of false is more = more is

exempt-more : (exempts : Bool) (n : ℕ) (parent : ℕ → Option TxnId) (o : Option TxnId) (u : TxnId) → is_among (if exempts then ancestors_from n parent o else []) u ≡ true → is_among (if exempts then ancestors_from (n + 1) parent o else []) u ≡ true
exempt-more true n parent o u is = let same : suc n ≡ n + 1 = omega arith in ap (λ k. is_among (ancestors_from k parent o) u) (sym same) ∙ line-more n parent o u is
exempt-more false n parent o u is = cc

module _ {A : Type 0} (m : Parts A) (s : Summary) (t : TxnId) (ob : ObjId) (op : Op) (n : OpNo) (i : HeldOp) (at : operation_at s.operations n.0 ≡ Some i) where
  -- the operation no longer blocks the event
  abbrev IsGone : Summary → Type 0
  IsGone l = option_map_or (stands_against m l t.0 ob op) (operation_at l.operations n.0) false ≡ false

  ended-gone : (l : Summary) (fate : Fate) → is_open fate ≡ false → l.operations ≡ map (ended_op i.holder.0 fate) s.operations → IsGone l
  ended-gone l fate closed is =
      at-off m l t.0 ob op n.0 (ended_op i.holder.0 fate i) (ap (λ ops. operation_at ops n.0) is ∙ mapped-at (ended_op i.holder.0 fate) s.operations n.0 i at)
      (closed-off m l t.0 ob op (ended_op i.holder.0 fate i) (ended-closed fate closed i))

  transferred-gone : (l : Summary) (u : TxnId) → (stands_against m l t.0 ob op (record i { holder = u }) ≡ false) → l.operations ≡ map (transferred_op i.holder.0 u) s.operations → IsGone l
  transferred-gone l u off is =
      at-off m l t.0 ob op n.0 (transferred_op i.holder.0 u i) (ap (λ ops. operation_at ops n.0) is ∙ mapped-at (transferred_op i.holder.0 u) s.operations n.0 i at)
      (transferred-then (λ j. stands_against m l t.0 ob op j ≡ false) u i (closed-off m l t.0 ob op i) off)

  -- after a commit of the holder, if its heir is this transaction
  abbrev left_to : Option TxnId → Summary
  left_to heir = counted (settled (terminated (linked s []) i.holder has_committed) i.holder heir)

  commit-gone : frees_at_commit m s t.0 i.holder.0 ≡ true → IsGone (effect m s (event.Commit i.holder))
  unfolding terminated linked fated inherited counted
  commit-gone frees = of (heir_of m s i.holder.0) frees
    where
      of : (heir : Option TxnId) → option_map_or (is_exempt m s t.0) heir true ≡ true → IsGone (left_to heir)
      of None is = ended-gone (left_to None) Committed refl refl
      of (Some p) is =
          elim (or_cases (p.0 == t.0) (is_among (exempt m s t.0) p) is) [
            | inl own ↦ transferred-gone (left_to (Some p)) p (own-off m (left_to (Some p)) t.0 ob op (record i { holder = p }) own) refl
            | inr among ↦ transferred-gone (left_to (Some p)) p (exempt-off m (left_to (Some p)) t.0 ob op (record i { holder = p }) (exempt-more (has_class (λ k. exempts k.scope) m s t.0) s.kept s.parent (s.parent t.0) p among)) refl
          ]

  abort-gone : IsGone (effect m s (event.Abort i.holder))
  unfolding terminated linked fated counted
  abort-gone = ended-gone (effect m s (event.Abort i.holder)) Aborted refl refl

  join-gone : IsGone (effect m s (event.Join i.holder t))
  unfolding terminated linked inherited counted
  join-gone = transferred-gone (effect m s (event.Join i.holder t)) t (own-off m (effect m s (event.Join i.holder t)) t.0 ob op (record i { holder = t }) (same_number t.0)) refl

  delegate-gone : (ops : List OpNo) → is_named ops n.0 ≡ true → IsGone (effect m s (event.Delegate i.holder t ops))
  unfolding linked given counted
  delegate-gone ops named =
      at-off m (effect m s (event.Delegate i.holder t ops)) t.0 ob op n.0 (record i { holder = t }) (moved-at ops t s.operations n.0 i at named)
      (own-off m (effect m s (event.Delegate i.holder t ops)) t.0 ob op (record i { holder = t }) (same_number t.0))

  permit-gone : IsGone (effect m s (event.Permit i.holder t i.ob))
  unfolding linked permit_given counted
  permit-gone =
      at-off m (effect m s (event.Permit i.holder t i.ob)) t.0 ob op n.0 i at
      (permitted-off m (effect m s (event.Permit i.holder t i.ob)) t.0 ob op i
      (right-true (s.permits i.holder.0 t.0 i.ob.0) ((i.holder.0 == i.holder.0) && (t.0 == t.0) && (i.ob.0 == i.ob.0)) (λ k. same_number i.holder.0 k && same_number t.0 k && same_number i.ob.0 k)))

  -- for each release
  pub released : (release : Release) (r : Event A) → may_release m s t.0 i.holder.0 release ≡ true → IsRelease t n i release r → IsGone (effect m s r)
  released Commit r may is =
      subst (λ (e : Event A). IsGone (effect m s e)) (sym is) (commit-gone (and_parts (txn_may m s i.holder.0 kind.Commit) (frees_at_commit m s t.0 i.holder.0) may).1)
  released Abort r may is = subst (λ (e : Event A). IsGone (effect m s e)) (sym is) abort-gone
  released Delegate r may is = subst (λ (e : Event A). IsGone (effect m s e)) (sym is.2) (delegate-gone is.0 is.1)
  released Join r may is = subst (λ (e : Event A). IsGone (effect m s e)) (sym is) join-gone
  released Permit r may is = subst (λ (e : Event A). IsGone (effect m s e)) (sym is) permit-gone

-- and so of a machine

after-admitted : {A : Type 0} (P : State A → Type 0) (state : State A) (r : Event A) → refusal_in state r ≡ None → P (moved_on state r None) → P (after state r)
unfolding after
after-admitted P state r none p = subst (λ (o : Option Refusal). P (moved_on state r o)) (sym none) p

pub let-go : {A : Type 0} (state : State A) (e : Event A) (n : OpNo) (release : Release) → may_be_released state e n release ≡ true → IsReleased state e n release
let-go {A} state (event.Operate t ob op) n release may = λ u i r acts at is none.
    after-admitted (λ later. is_blocking_in later (event.Operate t ob op) n ≡ false) state r none
    (ap (λ l. is_blocking state.model l (event.Operate t ob op) n.0) (summary_more state.model state.kept (kept_as state r))
    ∙ released state.model (summary_in state) t ob op n i at release r
    (sym (ap (λ o. option_map_or (λ j. may_release state.model (summary_in state) t.0 j.holder.0 release) o false) at) ∙ may)
    (subst (λ (v : TxnId). IsRelease v n i release r) (sym (ap (λ k. record { 0 = k }) (same_Some t.0 u.0 acts))) is))
let-go state (event.Begin t class) n release may = absurd (true≢false (sym may))
let-go state (event.Spawn t c class) n release may = absurd (true≢false (sym may))
let-go state (event.Split t u class ops) n release may = absurd (true≢false (sym may))
let-go state (event.Join t u) n release may = absurd (true≢false (sym may))
let-go state (event.Delegate t u ops) n release may = absurd (true≢false (sym may))
let-go state (event.Form kind j i) n release may = absurd (true≢false (sym may))
let-go state (event.Commit t) n release may = absurd (true≢false (sym may))
let-go state (event.Abort t) n release may = absurd (true≢false (sym may))
let-go state (event.Permit t u ob) n release may = absurd (true≢false (sym may))
