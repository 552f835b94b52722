-- Statements that no later events change, rule by rule.
use Rattle.std.proofs.Common.{◌≡◌, ◌≤◌, ◌<◌, ℕ, suc, zero, Bool, true, false, ◌==◌, ◌&&◌, not, List, [], ◌∷◌, ◌++◌, filter, length, min, Option, Some, None, is_some, is_none, refl, sym, ap, ◌∙◌, subst, inl, inr, arith}
use Rattle.std.specs.Prelude.{if◌then◌else◌, option_and_then, nat_lt, slice_get}
use Rattle.std.specs.List.{AllByRecursion, list_any}
use Rattle.std.specs.Option.{option_map_or}
use Rattle.std.proofs.lemmas.Bool.{true≢false, leb-true, leb-false, and_parts, cases_lt, or_cases, eqb-true, ltb-true}
use Rattle.std.proofs.lemmas.Option.{same_Some}
use Rattle.acta_table.specs.declared.answer.Refusal.{Refusal}
use Rattle.acta_table.specs.declared.answer.Rule.{Rule}
use Rattle.acta_table.specs.declared.answer.Rule.TheVariants.{EdgesFull, Full, NotInProgress, AlreadyBegun, NotInModel, PartnerNotInProgress, NotResponsible, BadSet, FormTooLate, NoHeir}
use Rattle.acta_table.specs.declared.answer.Status.{Status}
use Rattle.acta_table.specs.declared.answer.Status.TheVariants.{NotBegun, InProgress}
use Rattle.acta_table.specs.declared.event.EventKind.{EventKind}
use Rattle.acta_table.specs.declared.event.EventKind.TheVariants.{Spawn as spawn_kind, Split as split_kind, Join as join_kind, Delegate as delegate_kind, Form as form_kind, Operate as operate_kind, Commit as commit_kind, Abort as abort_kind, Permit as permit_kind}
use Rattle.acta_table.specs.declared.event.Event.{Event}
use Rattle.acta_table.specs.declared.event.Event.TheVariants.{Begin, Spawn, Split, Join, Delegate, Form, Operate, Commit, Abort, Permit}
use Rattle.acta_table.specs.declared.event.OpNo.{OpNo}
use Rattle.acta_table.specs.declared.limits.TheConstants.{MOST_EDGES, MOST_EVENTS}
use Rattle.acta_table.specs.declared.model.Parts.{Parts}
use Rattle.acta_table.specs.Classes.{class_at, can_do, has_heir}
use Rattle.acta_table.specs.Dependencies.{is_begin_kind}
use Rattle.acta_table.specs.Events.{acting, started, partner, operations_named}
use Rattle.acta_table.specs.Fates.{is_open}
use Rattle.acta_table.specs.Numbered.{smallest}
use Rattle.acta_table.specs.Refusals.{broken_if, broken_by}
use Rattle.acta_table.specs.Sets.{numbers_of}
use Rattle.acta_objects.specs.declared.forms.FormFault.{FormFault}
use Rattle.acta_objects.specs.declared.forms.FormFault.TheVariants.{BadNumber, BadClass, BadObject, BadOperation, SameTransaction}
use Rattle.acta_objects.specs.FormFaults.{refusal_of as refusal_for}
use Rattle.acta_deps.specs.Statuses.{has_begun, has_ended, is_new, is_in_progress}
use Rattle.acta_sets.specs.declared.held_op.HeldOp.{HeldOp}
use Rattle.acta_sets.specs.Operations.{is_held, operation_at}
use Rattle.acta_table.specs.Edges.{formed}
use Rattle.acta_machine.specs.Changes.{edges_due}
use Rattle.acta_machine.specs.Families.{heir_of}
use Rattle.acta_machine.specs.Rules.{edges_full, full, fails, not_in_progress, already_begun, class_may, txn_may, forms_none, is_allowed, not_in_model, partner_not_in_progress, is_of_another, not_held, not_responsible, unknown_in, bad_set, form_too_late, no_heir, lowest_broken, earlier_broken}
use Rattle.acta_machine.specs.Summary.{Summary}
use Rattle.acta_machine.specs.Table.{State, after_all, refusal_in}
use Rattle.acta_machine.proofs.Broken.{if_none, by_none, in_progress, not_begun, not_broken}
use Rattle.acta_machine.proofs.FamilyTies.{kept-many}
use Rattle.acta_machine.proofs.Histories.{operations_few}
use Rattle.acta_machine.proofs.Transferring.{named-held}
use Rattle.acta_machine.proofs.Unbroken.{linked-room, Unbroken, unbroken, none-earlier, none-heirless}
use Rattle.acta_hope.specs.Growth.{IsLater}
use Rattle.acta_hope.specs.Hopes.{IsHopeless, is_operate}
use Rattle.acta_hope.specs.Parts.{is_no_operation}
use Rattle.acta_hope.specs.Rulings.{IsBrokenBy}
use Rattle.acta_hope.proofs.Counting.{formed-more}
use Rattle.acta_hope.proofs.Growth.{summary_in, model-after_all, later-after_all, operation-later, IsThereLater}
use Rattle.acta_hope.proofs.Rulings.{none-full}

-- the event is admitted only under this condition, after any later events
abbrev pub Only : {A : Type 0} → Parts A → Summary → Event A → (Summary → Type 0) → Type 0
Only m s e P = (l : Summary) → IsLater s l → lowest_broken m l e ≡ None → P l

abbrev pub Not : {A : Type 0} → Parts A → Summary → Event A → Type 0
Not m s e = Only m s e (λ l. ⊥)

-- and so of a machine
pub only-later : {A : Type 0} (state : State A) (e : Event A) (P : Summary → Type 0) → Only state.model (summary_in state) e P → (es : List (Event A)) → refusal_in (after_all state es) e ≡ None → P (summary_in (after_all state es))
only-later state e P only es none =
    only (summary_in (after_all state es)) (later-after_all state es) (ap (λ m. lowest_broken m (summary_in (after_all state es)) e) (sym (model-after_all state es)) ∙ none)

pub is_something : {X : Type 0} (o : Option X) → (o ≡ None → ⊥) → is_some o ≡ true
is_something None never = absurd (never refl)
is_something (Some x) never = refl

pub never-later : {A : Type 0} (state : State A) (e : Event A) → Not state.model (summary_in state) e → IsHopeless state e
never-later state e not es = is_something (refusal_in (after_all state es) e) (only-later state e (λ l. ⊥) not es)

-- what a broken rule implies

pub if_some : (b : Bool) (rule : Rule) (r : Refusal) → broken_if b rule ≡ Some r → b ≡ true
if_some true rule r e = refl
if_some false rule r e = cc

pub by_some : (rule : Rule) (o : Option ℕ) (n : ℕ) → broken_by rule o ≡ Some (record { rule = rule; by = Some n }) → o ≡ Some n
by_some rule None n e = cc
by_some rule (Some k) n e = let same = ap (λ x. x.by) (same_Some _ _ e) in same

tested : (s : Summary) (test : Status → Bool) (o : Option ℕ) (n : ℕ) → option_and_then (fails s test) o ≡ Some n → (o ≡ Some n) × (test (s.status n) ≡ false)
tested s test None n e = absurd (cc)
tested s test (Some t) n e = of (test (s.status t)) refl e
  where
    of : (b : Bool) → test (s.status t) ≡ b → (if b then None else Some t) ≡ Some n → (Some t ≡ Some n) × (test (s.status n) ≡ false)
    of true is e = absurd (cc)
    of false is e = (e, ap (λ k. test (s.status k)) (sym (same_Some t n e)) ∙ is)

on-then : (rule : Rule) (l : Summary) (o : Option ℕ) (n : ℕ) → o ≡ Some n → broken_by rule (option_and_then (fails l is_in_progress) o) ≡ None → l.status n ≡ InProgress
on-then rule l o n named none = in_progress l rule n (ap (λ x. broken_by rule (option_and_then (fails l is_in_progress) x)) (sym named) ∙ none)

ended-on : (x : Status) → has_ended x ≡ true → x ≡ InProgress → ⊥
ended-on x ended on = true≢false (sym ended ∙ ap has_ended on)

begun_not_new : (x : Status) → is_new x ≡ false → has_begun x ≡ true
begun_not_new NotBegun e = cc
begun_not_new _ e = refl

module _ {A : Type 0} (m : Parts A) (s : Summary) (e : Event A) where
  abbrev rules_none : (l : Summary) → lowest_broken m l e ≡ None → Unbroken m l e
  rules_none l none = unbroken m l e (none-earlier m l e none)

  pub not-full : (r : Refusal) → full s ≡ Some r → Not m s e
  unfolding full
  not-full r broken l later none =
      let many : MOST_EVENTS ≤ s.kept = leb-true MOST_EVENTS s.kept (if_some _ Full r broken) in
      let few : l.kept < MOST_EVENTS = leb-false MOST_EVENTS l.kept (if_none _ Full (none-full m l e (none-earlier m l e none))) in
      omega (arith, later.kept)

  pub not-formed : (fault : FormFault) → IsBrokenBy m s e (refusal_for fault) (refusal_for fault).rule → Not m s e
  not-formed (BadNumber n) broken l later none = let u = (rules_none l none).number in cc
  not-formed (BadClass class) broken l later none = let u = (rules_none l none).class in cc
  not-formed (BadObject ob) broken l later none = let u = (rules_none l none).object in cc
  not-formed (BadOperation ob op) broken l later none = let u = (rules_none l none).operation in cc
  not-formed (SameTransaction t) broken l later none = let u = (rules_none l none).same in cc

  -- an ended transaction is never in progress again
  ended-never : (t : ℕ) → has_ended (s.status t) ≡ true → ((l : Summary) → lowest_broken m l e ≡ None → l.status t ≡ InProgress) → Not m s e
  ended-never t ended on l later none = ended-on (s.status t) ended (sym (later.ended t ended) ∙ on l none)

  begun-then : (t : ℕ) → ((l : Summary) → lowest_broken m l e ≡ None → l.status t ≡ InProgress) → Only m s e (λ l. has_begun (l.status t) ≡ true)
  begun-then t on l later none = ap has_begun (on l none)

  acting-on : (t : ℕ) → not_in_progress s e ≡ Some (record { rule = NotInProgress; by = Some t }) → (l : Summary) → lowest_broken m l e ≡ None → l.status t ≡ InProgress
  unfolding not_in_progress
  acting-on t broken l none =
      on-then NotInProgress l (acting e) t (tested s is_in_progress (acting e) t (by_some NotInProgress _ t broken)).0 (rules_none l none).progress

  pub acting-off : (t : ℕ) → not_in_progress s e ≡ Some (record { rule = NotInProgress; by = Some t }) → is_in_progress (s.status t) ≡ false
  unfolding not_in_progress
  acting-off t broken = (tested s is_in_progress (acting e) t (by_some NotInProgress _ t broken)).1

  pub partner-off : (t : ℕ) → partner_not_in_progress s e ≡ Some (record { rule = PartnerNotInProgress; by = Some t }) → is_in_progress (s.status t) ≡ false
  unfolding partner_not_in_progress
  partner-off t broken = (tested s is_in_progress (partner e) t (by_some PartnerNotInProgress _ t broken)).1

  pub not-acting : (t : ℕ) → has_ended (s.status t) ≡ true → not_in_progress s e ≡ Some (record { rule = NotInProgress; by = Some t }) → Not m s e
  not-acting t ended broken = ended-never t ended (acting-on t broken)

  pub once-acting : (t : ℕ) → not_in_progress s e ≡ Some (record { rule = NotInProgress; by = Some t }) → Only m s e (λ l. has_begun (l.status t) ≡ true)
  once-acting t broken = begun-then t (acting-on t broken)

  partner-on : (t : ℕ) → partner_not_in_progress s e ≡ Some (record { rule = PartnerNotInProgress; by = Some t }) → (l : Summary) → lowest_broken m l e ≡ None → l.status t ≡ InProgress
  unfolding partner_not_in_progress
  partner-on t broken l none =
      on-then PartnerNotInProgress l (partner e) t (tested s is_in_progress (partner e) t (by_some PartnerNotInProgress _ t broken)).0 (rules_none l none).partner

  pub not-partner : (t : ℕ) → has_ended (s.status t) ≡ true → partner_not_in_progress s e ≡ Some (record { rule = PartnerNotInProgress; by = Some t }) → Not m s e
  not-partner t ended broken = ended-never t ended (partner-on t broken)

  pub once-partner : (t : ℕ) → partner_not_in_progress s e ≡ Some (record { rule = PartnerNotInProgress; by = Some t }) → Only m s e (λ l. has_begun (l.status t) ≡ true)
  once-partner t broken = begun-then t (partner-on t broken)

  -- a transaction that has begun never counts as not begun again
  pub not-started : (t : ℕ) → already_begun s e ≡ Some (record { rule = AlreadyBegun; by = Some t }) → Not m s e
  unfolding already_begun
  not-started t broken l later none =
      let was = tested s is_new (started e) t (by_some AlreadyBegun _ t broken) in
      let is = later.begun t (begun_not_new (s.status t) was.1) in
      let new = not_begun l AlreadyBegun t (ap (λ x. broken_by AlreadyBegun (option_and_then (fails l is_new) x)) (sym was.0) ∙ (rules_none l none).begun) in
      true≢false (sym is ∙ ap has_begun new)

  -- classes

  -- what the class of a begun transaction allows, it allows later too
  may-later : (l : Summary) → IsLater s l → (t : ℕ) (kind : EventKind) → has_begun (s.status t) ≡ true → txn_may m l t kind ≡ txn_may m s t kind
  may-later l later t kind begun = ap (λ c. option_map_or (can_do kind) (option_and_then (λ k. class_at m k.0) c) false) (later.class t begun)

  forms-later : (l : Summary) → IsLater s l → (t : ℕ) → forms_none m s t ≡ true → forms_none m l t ≡ true
  forms-later l later t none =
      let parts = and_parts (has_begun (s.status t)) (not (txn_may m s t form_kind)) none in
      λ n. later.begun t parts.0 n && ((λ k. not (may-later l later t form_kind parts.0 k)) ∙ parts.1) n

  may-acting : (l : Summary) → IsLater s l → (t : ℕ) (kind : EventKind) → s.status t ≡ InProgress → txn_may m l t kind ≡ txn_may m s t kind
  may-acting l later t kind on = may-later l later t kind (ap has_begun on)

forms-before : {A : Type 0} (m : Parts A) (s : Summary) (e : Event A) (l : Summary) → IsLater s l → (t : ℕ) → not (forms_none m l t) ≡ true → not (forms_none m s t) ≡ true
forms-before m s e l later t may = of (forms_none m s t) refl
  where
    of : (b : Bool) → forms_none m s t ≡ b → not b ≡ true
    of true none = absurd (true≢false (sym may ∙ ap not (forms-later m s e l later t none)))
    of false none = refl

-- whatever the classes allow later they allow now, if the acting transaction is in progress
allowed-before : {A : Type 0} (m : Parts A) (s : Summary) (e : Event A) → not_in_progress s e ≡ None → (l : Summary) → IsLater s l → is_allowed m l e ≡ true → is_allowed m s e ≡ true
unfolding not_in_progress
allowed-before m s (Begin t class) on l later is = is
allowed-before m s (Spawn t c class) on l later is = ap (λ b. class_may m class.0 spawn_kind && b) (sym (may-acting m s (Spawn t c class) l later t.0 spawn_kind (in_progress s NotInProgress t.0 on))) ∙ is
allowed-before m s (Split t u class ops) on l later is = ap (λ b. class_may m class.0 split_kind && b) (sym (may-acting m s (Split t u class ops) l later t.0 split_kind (in_progress s NotInProgress t.0 on))) ∙ is
allowed-before m s (Join t u) on l later is = sym (may-acting m s (Join t u) l later t.0 join_kind (in_progress s NotInProgress t.0 on)) ∙ is
allowed-before m s (Delegate t u ops) on l later is = sym (may-acting m s (Delegate t u ops) l later t.0 delegate_kind (in_progress s NotInProgress t.0 on)) ∙ is
allowed-before {A} m s (Form kind j i) on l later is =
    let all = and_parts (list_any (can_do form_kind) m.classes && not (forms_none m l j.0)) (not (forms_none m l i.0)) is in
    let of_j = and_parts (list_any (can_do form_kind) m.classes) (not (forms_none m l j.0)) all.0 in
    λ n. of_j.0 n && forms-before m s (Form kind j i) l later j.0 of_j.1 n && forms-before m s (Form kind j i) l later i.0 all.1 n
allowed-before m s (Operate t ob op) on l later is = sym (may-acting m s (Operate t ob op) l later t.0 operate_kind (in_progress s NotInProgress t.0 on)) ∙ is
allowed-before m s (Commit t) on l later is = sym (may-acting m s (Commit t) l later t.0 commit_kind (in_progress s NotInProgress t.0 on)) ∙ is
allowed-before m s (Abort t) on l later is = sym (may-acting m s (Abort t) l later t.0 abort_kind (in_progress s NotInProgress t.0 on)) ∙ is
allowed-before m s (Permit t u ob) on l later is = sym (may-acting m s (Permit t u ob) l later t.0 permit_kind (in_progress s NotInProgress t.0 on)) ∙ is

-- the classes never allow what they do not allow now
pub not-allowed : {A : Type 0} (m : Parts A) (s : Summary) (e : Event A) (r : Refusal) → (not_in_model m s e ≡ Some r) × (not_in_progress s e ≡ None) → Not m s e
unfolding not_in_model
not-allowed m s e r broken l later none =
    let lacks = if_some (not (is_allowed m s e)) NotInModel r broken.0 in
    let may = not_broken (is_allowed m l e) NotInModel (rules_none m s e l none).model in
    true≢false (sym lacks ∙ ap not (allowed-before m s e broken.1 l later may))

-- operations that are named

pub none-smallest : (ns : List ℕ) → smallest ns ≡ None → ns ≡ []
none-smallest [] e = refl
none-smallest (n ∷ ns) e = cc

none-passes : (test : ℕ → Bool) (ns : List ℕ) → filter test ns ≡ [] → AllByRecursion (λ n. test n ≡ false) ns
none-passes test [] e = tt
none-passes test (n ∷ ns) e = of (test n) refl e (none-passes test ns)
  where
    of : (b : Bool) → test n ≡ b → (if b then n ∷ filter test ns else filter test ns) ≡ [] → (filter test ns ≡ [] → AllByRecursion (λ k. test k ≡ false) ns) → (test n ≡ false) × AllByRecursion (λ k. test k ≡ false) ns
    of true is e later = absurd (cc)
    of false is e later = (is, later e)

all-filter : (Q : ℕ → Type 0) (test : ℕ → Bool) (ns : List ℕ) → AllByRecursion Q ns → AllByRecursion Q (filter test ns)
all-filter Q test [] all = tt
all-filter Q test (n ∷ ns) all = of (test n) (all-filter Q test ns all.1)
  where
    of : (b : Bool) → AllByRecursion Q (filter test ns) → AllByRecursion Q (if b then n ∷ filter test ns else filter test ns)
    of true rest = (all.0, rest)
    of false rest = rest

lesser : (Q : ℕ → Type 0) (n k : ℕ) → Q n → Q k → Q (min n k)
lesser Q n k a b =
    elim (cases_lt n k) [
      | inl lt ↦ let same : n ≡ min n k = omega arith in subst Q same a
      | inr le ↦ let same : k ≡ min n k = omega arith in subst Q same b
    ]

-- a property of all numbers holds of the smallest
of-smallest : (Q : ℕ → Type 0) (ns : List ℕ) (n : ℕ) → AllByRecursion Q ns → smallest ns ≡ Some n → Q n
of-smallest Q [] n all e = absurd (cc)
of-smallest Q (k ∷ ns) n all e = of (smallest ns) e (λ p. of-smallest Q ns p all.1)
  where
    of : (o : Option ℕ) → Some (option_map_or (min k) o k) ≡ Some n → ((p : ℕ) → o ≡ Some p → Q p) → Q n
    of None e rest = subst Q (same_Some _ _ e) all.0
    of (Some p) e rest = subst Q (same_Some _ _ e) (lesser Q k p all.0 (rest p refl))

-- the smallest of the named numbers that fail a test now, if all named numbers pass another later
of-named : (Q : ℕ → Type 0) (test : ℕ → Bool) (ops : List OpNo) (n : ℕ) → AllByRecursion Q (numbers_of ops) → smallest (filter test (numbers_of ops)) ≡ Some n → Q n
of-named Q test ops n all e = of-smallest Q (filter test (numbers_of ops)) n (all-filter Q test (numbers_of ops) all) e

and_then_some : {X Y : Type 0} (f : X → Option Y) (o : Option X) (y : Y) → option_and_then f o ≡ Some y → (x : X) × ((o ≡ Some x) × (f x ≡ Some y))
and_then_some f None y e = absurd (cc)
and_then_some f (Some x) y e = (x, (refl, e))

module _ {A : Type 0} (m : Parts A) (s : Summary) (e : Event A) where
  -- if it is admitted, the acting transaction holds all named operations
  pub held-then : (t : ℕ) → acting e ≡ Some t → (l : Summary) → lowest_broken m l e ≡ None → AllByRecursion (λ n. option_map_or (is_held t) (operation_at l.operations n) false ≡ true) (numbers_of (operations_named e))
  unfolding not_responsible bad_set
  held-then t acts l none =
      let u = rules_none m s e l none in
      let others : not_held l (operations_named e) t ≡ None = ap (option_and_then (not_held l (operations_named e))) (sym acts) ∙ by_none NotResponsible _ u.responsible in
      named-held l (operations_named e) t others (by_none BadSet _ u.set)

  named-of-another : (n : ℕ) → not_responsible s e ≡ Some (record { rule = NotResponsible; by = Some n }) → (t : ℕ) × ((acting e ≡ Some t) × (not_held s (operations_named e) t ≡ Some n))
  unfolding not_responsible
  named-of-another n broken = and_then_some (not_held s (operations_named e)) (acting e) n (by_some NotResponsible _ n broken)

  -- it is admitted only if the acting transaction holds the operation
  pub once-held : (t n : ℕ) → acting e ≡ Some t → not_responsible s e ≡ Some (record { rule = NotResponsible; by = Some n }) → Only m s e (λ l. option_map_or (is_held t) (operation_at l.operations n) false ≡ true)
  once-held t n acts broken l later none =
      let found = named-of-another n broken in
      of-named (λ k. option_map_or (is_held t) (operation_at l.operations k) false ≡ true) (is_of_another s found.0) (operations_named e) n (held-then t acts l none) found.1.1

  -- an operation that has ended is never held again
  ended-not-held : (t : ℕ) (i : HeldOp) (o : Option HeldOp) → is_open i.fate ≡ false → IsThereLater (Some i) o → option_map_or (is_held t) o false ≡ true → ⊥
  ended-not-held t i None closed there held = there
  ended-not-held t i (Some j) closed there held =
      true≢false (sym (and_parts (j.holder.0 == t) (is_open j.fate) held).1 ∙ ap is_open (there.fate closed) ∙ closed)

  pub not-held : (n : ℕ) (i : HeldOp) → operation_at s.operations n ≡ Some i → is_open i.fate ≡ false → not_responsible s e ≡ Some (record { rule = NotResponsible; by = Some n }) → Not m s e
  not-held n i is closed broken l later none =
      let found = named-of-another n broken in
      ended-not-held found.0 i (operation_at l.operations n) closed
      (subst (λ (o : Option HeldOp). IsThereLater o (operation_at l.operations n)) is (operation-later s.operations l.operations n later.operations))
      (once-held found.0 n found.1.0 broken l later none)

  named-unknown : (n : ℕ) → bad_set s e ≡ Some (record { rule = BadSet; by = Some n }) → unknown_in s (operations_named e) ≡ Some n
  unfolding bad_set
  named-unknown n broken = by_some BadSet _ n broken

  -- so if there is no such operation yet
  pub once-there : (t n : ℕ) → acting e ≡ Some t → bad_set s e ≡ Some (record { rule = BadSet; by = Some n }) → Only m s e (λ l. option_map_or (is_held t) (operation_at l.operations n) false ≡ true)
  once-there t n acts broken l later none =
      of-named (λ k. option_map_or (is_held t) (operation_at l.operations k) false ≡ true) (λ k. is_none (operation_at s.operations k)) (operations_named e) n (held-then t acts l none) (named-unknown n broken)

  all_there : (l : Summary) → lowest_broken m l e ≡ None → AllByRecursion (λ k. is_none (operation_at l.operations k) ≡ false) (numbers_of (operations_named e))
  unfolding bad_set
  all_there l none = none-passes (λ k. is_none (operation_at l.operations k)) (numbers_of (operations_named e)) (none-smallest _ (by_none BadSet _ (rules_none m s e l none).set))

  pub all-known : (n : ℕ) → bad_set s e ≡ Some (record { rule = BadSet; by = Some n }) → Only m s e (λ l. is_none (operation_at l.operations n) ≡ false)
  all-known n broken l later none =
      of-named (λ k. is_none (operation_at l.operations k) ≡ false) (λ k. is_none (operation_at s.operations k)) (operations_named e) n (all_there l none) (named-unknown n broken)

  room : Only m s e (λ l. l.kept < MOST_EVENTS)
  unfolding full
  room l later none = leb-false MOST_EVENTS l.kept (if_none _ Full (none-full m l e (none-earlier m l e none)))

-- an event that names operations has an acting transaction
acting-named : {A : Type 0} (s : Summary) (e : Event A) (n : ℕ) → unknown_in s (operations_named e) ≡ Some n → acting e ≡ None → ⊥
acting-named s (Split t u class ops) n named none = cc
acting-named s (Delegate t u ops) n named none = cc
acting-named s (Begin t class) n named none = cc
acting-named s (Spawn t c class) n named none = cc
acting-named s (Join t u) n named none = cc
acting-named s (Form kind j i) n named none = cc
acting-named s (Operate t ob op) n named none = cc
acting-named s (Commit t) n named none = cc
acting-named s (Abort t) n named none = cc
acting-named s (Permit t u ob) n named none = cc

pub set-acts : {A : Type 0} (s : Summary) (e : Event A) (n : ℕ) → bad_set s e ≡ Some (record { rule = BadSet; by = Some n }) → acting e ≡ None → ⊥
unfolding bad_set
set-acts s e n broken none = acting-named s e n (by_some BadSet _ n broken) none

pub responsible-acts : {A : Type 0} (s : Summary) (e : Event A) (n : ℕ) → not_responsible s e ≡ Some (record { rule = NotResponsible; by = Some n }) → acting e ≡ None → ⊥
unfolding not_responsible
responsible-acts s e n broken none =
    let found = and_then_some (not_held s (operations_named e)) (acting e) n (by_some NotResponsible _ n broken) in
    let some = found.1.0 in
    cc

-- there is never an operation 0, nor one beyond the events that may be kept

got-within : (items : List HeldOp) (i : ℕ) → is_none (slice_get items i) ≡ false → i < length items
got-within [] i e = absurd (true≢false e)
got-within (x ∷ items) zero e = omega arith
got-within (x ∷ items) (suc i) e = let within = got-within items i e in omega (arith, within)

item-within : (items : List HeldOp) (n : ℕ) → is_none (operation_at items n) ≡ false → (0 < n) × (n ≤ length items)
item-within items zero e = absurd (true≢false e)
item-within items (suc i) e = let within = got-within items i e in (omega arith, omega (arith, within))

pub never-there : {A : Type 0} (state : State A) (e : Event A) (n : ℕ) → is_no_operation n ≡ true → bad_set (summary_in state) e ≡ Some (record { rule = BadSet; by = Some n }) → IsHopeless state e
never-there {A} state e n outside broken es = is_something (refusal_in (after_all state es) e) (λ none.
    let later : State A = after_all state es in
    let within = item-within (summary_in later).operations n (only-later state e (λ l. is_none (operation_at l.operations n) ≡ false) (all-known state.model (summary_in state) e n broken) es none) in
    let fits = only-later state e (λ l. l.kept < MOST_EVENTS) (room state.model (summary_in state) e) es none in
    let few = operations_few later.model later.kept in
    let count = kept-many later.model later.kept in
    elim (or_cases (n == 0) (nat_lt MOST_EVENTS n) outside) [
      | inl is ↦ let zero_is = eqb-true n 0 is in omega (arith, zero_is, within)
      | inr is ↦ let many = ltb-true MOST_EVENTS n is in omega (arith, many, within, fits, few, count)
    ])

-- edges that come too late

-- a transaction that has not ended later has not ended now
not-ended : (s l : Summary) → IsLater s l → (t : ℕ) → has_ended (l.status t) ≡ false → has_ended (s.status t) ≡ false
not-ended s l later t still = of (has_ended (s.status t)) refl
  where
    of : (b : Bool) → has_ended (s.status t) ≡ b → b ≡ false
    of true is = sym is ∙ ap has_ended (sym (later.ended t is)) ∙ still
    of false is = refl

late-never : (s l : Summary) → IsLater s l → (begins : Bool) (j i n : ℕ) →
    (if begins then fails s is_new j else smallest (filter (λ t. has_ended (s.status t)) (j ∷ i ∷ []))) ≡ Some n →
    (if begins then fails l is_new j else smallest (filter (λ t. has_ended (l.status t)) (j ∷ i ∷ []))) ≡ None → ⊥
late-never s l later true j i n e none =
    let was = tested s is_new (Some j) n e in
    let same = same_Some j n was.0 in
    let is = later.begun n (begun_not_new (s.status n) was.1) in
    let new = not_begun l FormTooLate n (ap (broken_by FormTooLate) (ap (fails l is_new) (sym same) ∙ none)) in
    true≢false (sym is ∙ ap has_begun new)
late-never s l later false j i n e none =
    let all = none-passes (λ t. has_ended (l.status t)) (j ∷ i ∷ []) (none-smallest _ none) in
    let o_j = not-ended s l later j all.0 in
    let o_i = not-ended s l later i all.1.0 in
    let nothing : smallest (filter (λ t. has_ended (s.status t)) (j ∷ i ∷ [])) ≡ None =
    λ x. smallest (if o_j x then j ∷ (if o_i x then i ∷ [] else []) else (if o_i x then i ∷ [] else [])) in
    cc

pub not-late : {A : Type 0} (m : Parts A) (s : Summary) (e : Event A) (n : ℕ) → form_too_late s e ≡ Some (record { rule = FormTooLate; by = Some n }) → Not m s e
unfolding form_too_late
not-late m s (Form kind j i) n broken l later none =
    late-never s l later (is_begin_kind kind) j.0 i.0 n (by_some FormTooLate _ n broken) (by_none FormTooLate _ (rules_none m s (Form kind j i) l none).time)
not-late m s (Begin t class) n broken l later none = cc
not-late m s (Spawn t c class) n broken l later none = cc
not-late m s (Split t u class ops) n broken l later none = cc
not-late m s (Join t u) n broken l later none = cc
not-late m s (Delegate t u ops) n broken l later none = cc
not-late m s (Operate t ob op) n broken l later none = cc
not-late m s (Commit t) n broken l later none = cc
not-late m s (Abort t) n broken l later none = cc
not-late m s (Permit t u ob) n broken l later none = cc

-- heirs

-- a transaction in progress keeps its heir
heir-later : {A : Type 0} (m : Parts A) (s l : Summary) → IsLater s l → (t : ℕ) → s.status t ≡ InProgress → heir_of m l t ≡ heir_of m s t
heir-later m s l later t on =
    λ i. if option_map_or (λ k. has_heir k.at_commit) (option_and_then (λ c. class_at m c.0) (later.class t (ap has_begun on) i)) false then later.parent t (ap has_begun on) i else None

-- if the event is admitted, the parent is in progress
heir-on : {A : Type 0} (m : Parts A) (s : Summary) (e : Event A) (n : ℕ) → no_heir m s e ≡ Some (record { rule = NoHeir; by = Some n }) → earlier_broken m s e ≡ None → Only m s e (λ l. l.status n ≡ InProgress)
unfolding no_heir not_in_progress
heir-on m s (Commit t) n broken fine l later none =
    let u = unbroken m s (Commit t) fine in
    let on = in_progress s NotInProgress t.0 u.progress in
    let found = and_then_some (λ p. fails s is_in_progress p.0) (heir_of m s t.0) n (by_some NoHeir _ n broken) in
    let p = found.0 in
    let is_n = same_Some p.0 n (tested s is_in_progress (Some p.0) n found.1.1).0 in
    let same = heir-later m s l later t.0 on ∙ found.1.0 in
    subst (λ (k : ℕ). l.status k ≡ InProgress) is_n
    (in_progress l NoHeir p.0 (ap (λ o. broken_by NoHeir (option_and_then (λ q. fails l is_in_progress q.0) o)) (sym same) ∙ none-heirless m l (Commit t) none))
heir-on m s (Begin t class) n broken fine l later none = cc
heir-on m s (Spawn t c class) n broken fine l later none = cc
heir-on m s (Split t u class ops) n broken fine l later none = cc
heir-on m s (Join t u) n broken fine l later none = cc
heir-on m s (Delegate t u ops) n broken fine l later none = cc
heir-on m s (Form kind j i) n broken fine l later none = cc
heir-on m s (Operate t ob op) n broken fine l later none = cc
heir-on m s (Abort t) n broken fine l later none = cc
heir-on m s (Permit t u ob) n broken fine l later none = cc

pub heir-off : {A : Type 0} (m : Parts A) (s : Summary) (e : Event A) (n : ℕ) → no_heir m s e ≡ Some (record { rule = NoHeir; by = Some n }) → is_in_progress (s.status n) ≡ false
unfolding no_heir
heir-off m s (Commit t) n broken =
    let found = and_then_some (λ p. fails s is_in_progress p.0) (heir_of m s t.0) n (by_some NoHeir _ n broken) in
    (tested s is_in_progress (Some found.0.0) n found.1.1).1
heir-off m s (Begin t class) n broken = cc
heir-off m s (Spawn t c class) n broken = cc
heir-off m s (Split t u class ops) n broken = cc
heir-off m s (Join t u) n broken = cc
heir-off m s (Delegate t u ops) n broken = cc
heir-off m s (Form kind j i) n broken = cc
heir-off m s (Operate t ob op) n broken = cc
heir-off m s (Abort t) n broken = cc
heir-off m s (Permit t u ob) n broken = cc

pub not-heir : {A : Type 0} (m : Parts A) (s : Summary) (e : Event A) (n : ℕ) → has_ended (s.status n) ≡ true → (no_heir m s e ≡ Some (record { rule = NoHeir; by = Some n })) × (earlier_broken m s e ≡ None) → Not m s e
not-heir m s e n ended broken l later none = ended-on (s.status n) ended (sym (later.ended n ended) ∙ heir-on m s e n broken.0 broken.1 l later none)

pub once-heir : {A : Type 0} (m : Parts A) (s : Summary) (e : Event A) (n : ℕ) → (no_heir m s e ≡ Some (record { rule = NoHeir; by = Some n })) × (earlier_broken m s e ≡ None) → Only m s e (λ l. has_begun (l.status n) ≡ true)
once-heir m s e n broken l later none = ap has_begun (heir-on m s e n broken.0 broken.1 l later none)

-- edges that are too many

-- an event that forms edges without a look at operations forms the same ones later
abbrev FormsSame : {A : Type 0} → Parts A → Summary → Event A → Type 0
FormsSame m s e = (l : Summary) → edges_due m l e ≡ edges_due m s e

pub not-few : {A : Type 0} (m : Parts A) (s : Summary) (e : Event A) (r : Refusal) → FormsSame m s e → (edges_full m s e ≡ Some r) × (not_in_progress s e ≡ None) → Not m s e
unfolding edges_full
not-few m s e r same broken l later none =
    let many = ltb-true MOST_EDGES (length (formed s.edges (edges_due m s e))) (if_some _ EdgesFull r broken.0) in
    let few : length (formed l.edges (edges_due m l e)) ≤ MOST_EDGES = linked-room m l e (rules_none m s e l none).edges in
    let more = formed-more s.edges later.edges.0 (edges_due m s e) in
    let is : formed l.edges (edges_due m l e) ≡ formed (s.edges ++ later.edges.0) (edges_due m s e) = λ i. formed (later.edges.1 i) (same l i) in
    let long = ap length is in
    omega (arith, many, few, more, long)

pub forms-same : {A : Type 0} (m : Parts A) (s : Summary) (e : Event A) → is_operate e ≡ false → FormsSame m s e
forms-same m s (Begin t class) is l = refl
forms-same m s (Spawn t c class) is l = refl
forms-same m s (Split t u class ops) is l = refl
forms-same m s (Join t u) is l = refl
forms-same m s (Delegate t u ops) is l = refl
forms-same m s (Form kind j i) is l = refl
forms-same m s (Operate t ob op) is l = absurd (true≢false is)
forms-same m s (Commit t) is l = refl
forms-same m s (Abort t) is l = refl
forms-same m s (Permit t u ob) is l = refl
