-- An event is admitted only if no operation blocks it any more.
use Rattle.std.proofs.Common.{◌≡◌, ◌≤◌, ◌<◌, ℕ, zero, suc, Bool, true, false, ◌+◌, ◌==◌, ◌&&◌, ◌||◌, not, List, [], ◌∷◌, ◌++◌, map, filter, length, Option, Some, None, refl, sym, ap, ◌∙◌, subst, inl, inr, eqb-true, eq-eqb, arith}
use Rattle.std.specs.Prelude.{if◌then◌else◌, option_and_then, slice_get, find}
use Rattle.std.specs.List.{list_all, list_any}
use Rattle.std.specs.Option.{option_map_or}
use Rattle.std.proofs.lemmas.Bool.{true≢false, and_parts, or_cases, ltb-true}
use Rattle.std.proofs.lemmas.Option.{same_Some}
use Rattle.acta_table.specs.declared.answer.Refusal.{Refusal}
use Rattle.acta_table.specs.declared.answer.Rule.TheVariants.{NotInProgress, PartialDelegation, Conflict, EdgesFull}
use Rattle.acta_table.specs.declared.answer.Status.TheVariants.{InProgress}
use Rattle.acta_table.specs.declared.dep.Edge.{Edge}
use Rattle.acta_table.specs.declared.event.Event.{Event}
use Rattle.acta_table.specs.declared.event.Event.TheVariants.{Begin, Spawn, Split, Join, Delegate, Form, Operate, Commit, Abort, Permit}
use Rattle.acta_table.specs.declared.event.ObjId.{ObjId}
use Rattle.acta_table.specs.declared.event.OpNo.{OpNo}
use Rattle.acta_table.specs.declared.event.Op.{Op}
use Rattle.acta_table.specs.declared.event.TxnId.{TxnId}
use Rattle.acta_table.specs.declared.limits.TheConstants.{MOST_EDGES}
use Rattle.acta_table.specs.declared.model.Class.{Class}
use Rattle.acta_table.specs.declared.model.Parts.{Parts}
use Rattle.acta_table.specs.declared.policy.Policy.{Policy}
use Rattle.acta_table.specs.Classes.{class_at, is_whole}
use Rattle.acta_table.specs.Edges.{is_among, formed}
use Rattle.acta_table.specs.Events.{acting, operations_named, transfers_over}
use Rattle.acta_table.specs.Numbered.{first_number, item_at, numbers_from, numbers_where}
use Rattle.acta_table.specs.Policies.{edges_on, edges_upon}
use Rattle.acta_table.specs.Refusals.{broken_by}
use Rattle.acta_table.specs.Sets.{is_named}
use Rattle.acta_deps.specs.Statuses.{has_begun, is_in_progress}
use Rattle.acta_sets.specs.declared.held_op.HeldOp.{HeldOp}
use Rattle.acta_sets.specs.Operations.{is_held, operation_at}
use Rattle.acta_machine.specs.Changes.{edges_due}
use Rattle.acta_machine.specs.Conflicts.{stands_against, conflicting_holders}
use Rattle.acta_machine.specs.Families.{class_of, has_class}
use Rattle.acta_machine.specs.Rules.{conflict, edges_full, fails, not_in_progress, partial_delegation, refuses_conflicts, wants_whole, left_out, left_out_by, lowest_broken}
use Rattle.acta_machine.specs.Summary.{Summary}
use Rattle.acta_machine.proofs.Broken.{by_none, in_progress}
use Rattle.acta_machine.proofs.Unbroken.{linked-room, Unbroken, unbroken, none-earlier}
use Rattle.acta_hope.specs.Growth.{IsLater}
use Rattle.acta_hope.specs.Hopes.{is_blocking, conflicting_holders_of, is_listed, are_listed, is_operate}
use Rattle.acta_hope.proofs.BlockKinds.{none-passes-at, passes}
use Rattle.acta_hope.proofs.Counting.{among-left, among-right, among-either, formed-covered, left-true, right-true}
use Rattle.acta_hope.proofs.Hopes.{Only, by_some, if_some}

-- a transaction in progress keeps its class
pub class-stays : {A : Type 0} (m : Parts A) (s l : Summary) → IsLater s l → (t : ℕ) → s.status t ≡ InProgress → class_of m l t ≡ class_of m s t
class-stays m s l later t on = ap (option_and_then (λ c. class_at m c.0)) (later.class t (ap has_begun on))

pub has-stays : {A : Type 0} (test : Class A → Bool) (m : Parts A) (s l : Summary) → IsLater s l → (t : ℕ) → s.status t ≡ InProgress → has_class test m l t ≡ has_class test m s t
has-stays test m s l later t on = ap (λ c. option_map_or test c false) (class-stays m s l later t on)

-- conflicts

guard-open : (b : Bool) (o : Option ℕ) (n : ℕ) → (if b then o else None) ≡ Some n → b ≡ true
guard-open true o n e = refl
guard-open false o n e = cc

guard-none : (b : Bool) (o : Option ℕ) → b ≡ true → (if b then o else None) ≡ None → o ≡ None
guard-none true o is e = e
guard-none false o is e = cc

none-at : {X : Type 0} (test : X → Bool) (xs : List X) (n : ℕ) → first_number test xs ≡ None → option_map_or test (item_at xs n) false ≡ false
none-at {X} test xs n none = of (item_at xs n) refl
  where
    of : (o : Option X) → item_at xs n ≡ o → option_map_or test o false ≡ false
    of None at = refl
    of (Some x) at = none-passes-at test xs n x none at

-- if the event is admitted, an operation that blocked it no longer does
pub conflict-gone : {A : Type 0} (m : Parts A) (s : Summary) (e : Event A) (n : ℕ) → (conflict m s e ≡ Some (record { rule = Conflict; by = Some n })) × (not_in_progress s e ≡ None) → Only m s e (λ l. is_blocking m l e n ≡ false)
unfolding conflict not_in_progress
conflict-gone m s (Operate t ob op) n broken l later none =
    let on = in_progress s NotInProgress t.0 broken.1 in
    let refuses : refuses_conflicts m s t.0 ≡ true = guard-open (refuses_conflicts m s t.0) (first_number (stands_against m s t.0 ob op) s.operations) n (by_some Conflict _ n broken.0) in
    let still : refuses_conflicts m l t.0 ≡ true = has-stays _ m s l later t.0 on ∙ refuses in
    let clear = by_none Conflict _ (unbroken m l (Operate t ob op) (none-earlier m l (Operate t ob op) none)).conflict in
    none-at (stands_against m l t.0 ob op) l.operations n (guard-none (refuses_conflicts m l t.0) (first_number (stands_against m l t.0 ob op) l.operations) still clear)
conflict-gone m s (Begin t class) n broken l later none = refl
conflict-gone m s (Spawn t c class) n broken l later none = refl
conflict-gone m s (Split t u class ops) n broken l later none = refl
conflict-gone m s (Join t u) n broken l later none = refl
conflict-gone m s (Delegate t u ops) n broken l later none = refl
conflict-gone m s (Form kind j i) n broken l later none = refl
conflict-gone m s (Commit t) n broken l later none = refl
conflict-gone m s (Abort t) n broken l later none = refl
conflict-gone m s (Permit t u ob) n broken l later none = refl

guard-only : (b : Bool) (o : Option ℕ) (n : ℕ) → (if b then o else None) ≡ Some n → o ≡ Some n
guard-only true o n e = e
guard-only false o n e = cc

-- the named operation blocks the event
pub conflict-stands : {A : Type 0} (m : Parts A) (s : Summary) (e : Event A) (n : ℕ) (i : HeldOp) → operation_at s.operations n ≡ Some i → conflict m s e ≡ Some (record { rule = Conflict; by = Some n }) → is_blocking m s e n ≡ true
unfolding conflict
conflict-stands m s (Operate t ob op) n i at broken =
    let first = guard-only (refuses_conflicts m s t.0) (first_number (stands_against m s t.0 ob op) s.operations) n (by_some Conflict _ n broken) in
    ap (λ o. option_map_or (stands_against m s t.0 ob op) o false) at ∙ passes (stands_against m s t.0 ob op) s.operations n i first at
conflict-stands m s (Begin t class) n i at broken = cc
conflict-stands m s (Spawn t c class) n i at broken = cc
conflict-stands m s (Split t u class ops) n i at broken = cc
conflict-stands m s (Join t u) n i at broken = cc
conflict-stands m s (Delegate t u ops) n i at broken = cc
conflict-stands m s (Form kind j k) n i at broken = cc
conflict-stands m s (Commit t) n i at broken = cc
conflict-stands m s (Abort t) n i at broken = cc
conflict-stands m s (Permit t u ob) n i at broken = cc

-- edges for which there is no room

-- an edge on one of these is among the edges on all of them
upon-one : (policy : Policy) (t : TxnId) (vs : List ℕ) (u : ℕ) (g : Edge) → is_listed vs u ≡ true → is_among (edges_on policy t u) g ≡ true → is_among (edges_upon policy t vs) g ≡ true
upon-one policy t [] u g listed is = cc
upon-one policy t (v ∷ vs) u g listed is =
    elim (or_cases (v == u) (is_listed vs u) listed) [
      | inl here ↦ among-left (edges_on policy t v) (edges_upon policy t vs) g (ap (λ w. is_among (edges_on policy t w) g) (eqb-true v u here) ∙ is)
      | inr there ↦ among-right (edges_on policy t v) (edges_upon policy t vs) g (upon-one policy t vs u g there is)
    ]

upon-all : (policy : Policy) (t : TxnId) (us vs : List ℕ) (g : Edge) → are_listed us vs ≡ true → is_among (edges_upon policy t us) g ≡ true → is_among (edges_upon policy t vs) g ≡ true
upon-all policy t [] vs g listed is = cc
upon-all policy t (u ∷ us) vs g listed is =
    let parts = and_parts (is_listed vs u) (are_listed us vs) listed in
    elim (among-either (edges_on policy t u) (edges_upon policy t us) g is) [
      | inl here ↦ upon-one policy t vs u g parts.0 here
      | inr there ↦ upon-all policy t us vs g parts.1 there
    ]

due-all : {A : Type 0} (t : TxnId) (class : Option (Class A)) (us vs : List ℕ) (g : Edge) → are_listed us vs ≡ true → is_among (option_map_or (λ k. edges_upon k.policy t us) class []) g ≡ true → is_among (option_map_or (λ k. edges_upon k.policy t vs) class []) g ≡ true
due-all t None us vs g listed is = is
due-all t (Some k) us vs g listed is = upon-all k.policy t us vs g listed is

-- if it is admitted, one of the conflicting holders is no longer one
pub fewer-then : {A : Type 0} (m : Parts A) (s : Summary) (e : Event A) (r : Refusal) → is_operate e ≡ true → (edges_full m s e ≡ Some r) × (not_in_progress s e ≡ None) → Only m s e (λ l. are_listed (conflicting_holders_of m s e) (conflicting_holders_of m l e) ≡ false)
unfolding edges_full not_in_progress
fewer-then {A} m s (Operate t ob op) r is broken l later none = of (are_listed us vs) refl
  where
    us : List ℕ
    us = conflicting_holders m s t.0 ob op

    vs : List ℕ
    vs = conflicting_holders m l t.0 ob op

    of : (b : Bool) → are_listed us vs ≡ b → b ≡ false
    of false listed = refl
    of true listed =
        let e : Event A = Operate t ob op in
        let on = in_progress s NotInProgress t.0 broken.1 in
        let many = ltb-true MOST_EDGES (length (formed s.edges (edges_due m s e))) (if_some _ EdgesFull r broken.0) in
        let few : length (formed l.edges (edges_due m l e)) ≤ MOST_EDGES = linked-room m l e (unbroken m l e (none-earlier m l e none)).edges in
        let same : edges_due m l e ≡ option_map_or (λ k. edges_upon k.policy t vs) (class_of m s t.0) [] = ap (λ c. option_map_or (λ k. edges_upon k.policy t vs) c []) (class-stays m s l later t.0 on) in
        let more = formed-covered s.edges later.edges.0 (edges_due m s e) (option_map_or (λ k. edges_upon k.policy t vs) (class_of m s t.0) []) (λ g among. due-all t (class_of m s t.0) us vs g listed among) in
        let long = ap length (λ i. formed (later.edges.1 i) (same i)) in
        absurd (omega (arith, many, few, more, long))
fewer-then m s (Begin t class) r is broken l later none = absurd (true≢false (sym is))
fewer-then m s (Spawn t c class) r is broken l later none = absurd (true≢false (sym is))
fewer-then m s (Split t u class ops) r is broken l later none = absurd (true≢false (sym is))
fewer-then m s (Join t u) r is broken l later none = absurd (true≢false (sym is))
fewer-then m s (Delegate t u ops) r is broken l later none = absurd (true≢false (sym is))
fewer-then m s (Form kind j i) r is broken l later none = absurd (true≢false (sym is))
fewer-then m s (Commit t) r is broken l later none = absurd (true≢false (sym is))
fewer-then m s (Abort t) r is broken l later none = absurd (true≢false (sym is))
fewer-then m s (Permit t u ob) r is broken l later none = absurd (true≢false (sym is))

-- operations that have to be transferred

guard-and : (a b : Bool) (o : Option ℕ) (n : ℕ) → (if a && b then o else None) ≡ Some n → (a ≡ true) × (b ≡ true)
guard-and true true o n e = (refl, refl)
guard-and true false o n e = cc
guard-and false b o n e = cc

guard-both : (a b : Bool) (o : Option ℕ) → a ≡ true → b ≡ true → (if a && b then o else None) ≡ None → o ≡ None
guard-both true true o is_a is_b e = e
guard-both true false o is_a is_b e = cc
guard-both false b o is_a is_b e = cc

guard-some : (a b : Bool) (o : Option ℕ) (n : ℕ) → (if a && b then o else None) ≡ Some n → o ≡ Some n
guard-some true true o n e = e
guard-some true false o n e = cc
guard-some false b o n e = cc

-- the first that is found passes
found-passes : (test : ℕ → Bool) (ns : List ℕ) (n : ℕ) → find test ns ≡ Some n → test n ≡ true
found-passes test [] n e = cc
found-passes test (k ∷ ns) n e = of (test k) refl e (found-passes test ns n)
  where
    of : (b : Bool) → test k ≡ b → (if b then Some k else find test ns) ≡ Some n → (find test ns ≡ Some n → test n ≡ true) → test n ≡ true
    of true is e later = ap test (sym (same_Some k n e)) ∙ is
    of false is e later = later e

none-found : (test : ℕ → Bool) (ns : List ℕ) (n : ℕ) → find test ns ≡ None → is_listed ns n ≡ true → test n ≡ false
none-found test [] n e listed = cc
none-found test (k ∷ ns) n e listed = of (test k) refl e (none-found test ns n)
  where
    of : (b : Bool) → test k ≡ b → (if b then Some k else find test ns) ≡ None → (find test ns ≡ None → is_listed ns n ≡ true → test n ≡ false) → test n ≡ false
    of true is e rest = cc
    of false is e rest =
        elim (or_cases (k == n) (is_listed ns n) listed) [
          | inl here ↦ ap test (sym (eqb-true k n here)) ∙ is
          | inr there ↦ rest e there
        ]

-- a number is among those of the items that pass if its item passes
numbered-from : {X : Type 0} (test : X → Bool) (k : ℕ) (xs : List X) (i : ℕ) (x : X) → slice_get xs i ≡ Some x → test x ≡ true → is_listed (numbers_from test k xs) (k + i) ≡ true
numbered-from test k [] i x at is = cc
numbered-from test k (y ∷ xs) zero x at is = of (test y) (ap test (same_Some y x at) ∙ is)
  where
    of : (b : Bool) → b ≡ true → is_listed (if b then k ∷ numbers_from test (k + 1) xs else numbers_from test (k + 1) xs) (k + 0) ≡ true
    of true is = left-true (k == k + 0) (is_listed (numbers_from test (k + 1) xs) (k + 0)) (eq-eqb k (k + 0) (omega arith))
    of false is = cc
numbered-from test k (y ∷ xs) (suc i) x at is =
    let same : (k + 1) + i ≡ k + suc i = omega arith in
    of (test y) (ap (is_listed (numbers_from test (k + 1) xs)) (sym same) ∙ numbered-from test (k + 1) xs i x at is)
  where
    of : (b : Bool) → is_listed (numbers_from test (k + 1) xs) (k + suc i) ≡ true → is_listed (if b then k ∷ numbers_from test (k + 1) xs else numbers_from test (k + 1) xs) (k + suc i) ≡ true
    of true rest = right-true (k == k + suc i) (is_listed (numbers_from test (k + 1) xs) (k + suc i)) rest
    of false rest = rest

numbered : {X : Type 0} (test : X → Bool) (xs : List X) (n : ℕ) (x : X) → item_at xs n ≡ Some x → test x ≡ true → is_listed (numbers_where test xs) n ≡ true
numbered test xs zero x at is = cc
numbered test xs (suc i) x at is = let same : 1 + i ≡ suc i = omega arith in ap (is_listed (numbers_where test xs)) (sym same) ∙ numbered-from test 1 xs i x at is

-- the rule, if the acting transaction is known
left-then : {A : Type 0} (m : Parts A) (s : Summary) (e : Event A) (t n : ℕ) → acting e ≡ Some t → partial_delegation m s e ≡ Some (record { rule = PartialDelegation; by = Some n }) → left_out_by m s e t ≡ Some n
unfolding partial_delegation
left-then m s e t n acts broken = ap (option_and_then (left_out_by m s e)) (sym acts) ∙ by_some PartialDelegation _ n broken

left-none : {A : Type 0} (m : Parts A) (s : Summary) (e : Event A) (t : ℕ) → acting e ≡ Some t → partial_delegation m s e ≡ None → left_out_by m s e t ≡ None
unfolding partial_delegation
left-none m s e t acts none = ap (option_and_then (left_out_by m s e)) (sym acts) ∙ by_none PartialDelegation _ none

acting-in_progress : {A : Type 0} (s : Summary) (e : Event A) (t : ℕ) → acting e ≡ Some t → not_in_progress s e ≡ None → s.status t ≡ InProgress
unfolding not_in_progress
acting-in_progress s e t acts none = in_progress s NotInProgress t (ap (λ x. broken_by NotInProgress (option_and_then (fails s is_in_progress) x)) (sym acts) ∙ none)

-- if it is admitted, the acting transaction no longer holds the operation that was left out
pub left-let-go : {A : Type 0} (m : Parts A) (s : Summary) (e : Event A) (t n : ℕ) → acting e ≡ Some t → (partial_delegation m s e ≡ Some (record { rule = PartialDelegation; by = Some n })) × (not_in_progress s e ≡ None) → Only m s e (λ l. option_map_or (is_held t) (operation_at l.operations n) false ≡ false)
left-let-go {A} m s e t n acts broken l later none = of (operation_at l.operations n) refl
  where
    on : s.status t ≡ InProgress
    on = acting-in_progress s e t acts broken.1

    left : left_out_by m s e t ≡ Some n
    left = left-then m s e t n acts broken.0

    wants : (transfers_over e ≡ true) × (wants_whole m s t ≡ true)
    wants = guard-and (transfers_over e) (wants_whole m s t) (left_out s (operations_named e) t) n left

    -- it isn't named
    missing : not (is_named (operations_named e) n) ≡ true
    missing = found-passes (λ k. not (is_named (operations_named e) k)) (numbers_where (is_held t) s.operations) n (guard-some (transfers_over e) (wants_whole m s t) (left_out s (operations_named e) t) n left)

    clear : left_out l (operations_named e) t ≡ None
    clear =
        guard-both (transfers_over e) (wants_whole m l t) (left_out l (operations_named e) t) wants.0 (has-stays (λ k. is_whole k.extent) m s l later t on ∙ wants.1)
        (left-none m l e t acts (unbroken m l e (none-earlier m l e none)).whole)

    of : (o : Option HeldOp) → operation_at l.operations n ≡ o → option_map_or (is_held t) o false ≡ false
    of None at = refl
    of (Some i) at = held (is_held t i) refl
      where
        held : (b : Bool) → is_held t i ≡ b → b ≡ false
        held false is = refl
        held true is =
            absurd (true≢false (sym missing ∙ none-found (λ k. not (is_named (operations_named e) k)) (numbers_where (is_held t) l.operations) n clear (numbered (is_held t) l.operations n i at is)))

-- a transaction that transfers operations acts
pub whole-acts : {A : Type 0} (m : Parts A) (s : Summary) (e : Event A) (n : ℕ) → partial_delegation m s e ≡ Some (record { rule = PartialDelegation; by = Some n }) → acting e ≡ None → ⊥
unfolding partial_delegation
whole-acts m s e n broken none =
    let nothing : option_and_then (left_out_by m s e) (acting e) ≡ None = ap (option_and_then (left_out_by m s e)) none in
    let some = by_some PartialDelegation _ n broken in
    cc
