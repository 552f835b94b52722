-- After an event that breaks no rule, the history satisfies the axioms and the summary is that by places.
use Rattle.std.proofs.Common.{◌≡◌, ℕ, Bool, true, false, ◌&&◌, ◌||◌, not, List, [], ◌∷◌, ◌++◌, map, filter, Option, Some, None, refl, sym, ap, ◌∙◌, subst, ◌⊎◌, inl, inr, ◌==◌, eq-eqb, arith}
use Rattle.std.specs.Prelude.{option_map, option_and_then, option_to_list, is_some, IfSome, if◌then◌else◌}
use Rattle.std.specs.List.{list_any, list_all}
use Rattle.std.specs.Option.{option_map_or, option_or}
use Rattle.std.specs.Ordering.{int_eq}
use Rattle.std.proofs.lemmas.Bool.{true≢false, ne_eqb, eqb-true}
use Rattle.std.proofs.lemmas.Option.{same_Some, none-some}
use Rattle.std.proofs.lemmas.Cmp.{int_eq_equiv}
use Rattle.acta_table.specs.declared.dep.Dep.{Dep}
use Rattle.acta_table.specs.declared.event.TxnId.{TxnId}
use Rattle.acta_table.specs.declared.event.ClassId.{ClassId}
use Rattle.acta_table.specs.declared.event.ObjId.{ObjId}
use Rattle.acta_table.specs.declared.event.Op.{Op}
use Rattle.acta_table.specs.declared.event.Ret.{Ret}
use Rattle.acta_table.specs.declared.event.Ret.TheVariants.{Done, Value, Flag}
use Rattle.acta_table.specs.declared.event.EventKind.{EventKind}
use Rattle.acta_table.specs.declared.event.EventKind.TheVariants.{Begin as begin_kind, Spawn as spawn_kind, Split as split_kind, Join as join_kind, Delegate as delegate_kind, Form as form_kind, Operate as operate_kind, Commit as commit_kind, Abort as abort_kind, Permit as permit_kind}
use Rattle.acta_table.specs.declared.event.Event.{Event}
use Rattle.acta_table.specs.declared.event.Event.TheVariants.{Begin, Spawn, Split, Join, Delegate, Form, Operate, Commit, Abort, Permit}
use Rattle.acta_table.specs.declared.event.Kept.{Kept}
use Rattle.acta_table.specs.declared.answer.Status.{Status}
use Rattle.acta_table.specs.declared.answer.Status.TheVariants.{NotBegun, InProgress, Committed as has_committed, Aborted as has_aborted, Joined as has_joined}
use Rattle.acta_table.specs.declared.answer.Rule.TheVariants.{SameTransaction, NotInProgress, AlreadyBegun, NotInModel, PartnerNotInProgress, NotResponsible, PartialDelegation, BadSet, Conflict, FormTooLate, NoHeir}
use Rattle.acta_table.specs.declared.answer.Refusal.{Refusal}
use Rattle.acta_table.specs.declared.model.Class.{Class}
use Rattle.acta_table.specs.declared.model.Kind.{Kind}
use Rattle.acta_table.specs.declared.model.Parts.{Parts}
use Rattle.acta_table.specs.Classes.{class_at, kind_at, can_start, can_do, is_whole, has_heir}
use Rattle.acta_table.specs.Dependencies.{is_begin_kind}
use Rattle.acta_table.specs.Edges.{formed}
use Rattle.acta_table.specs.Faults.{lowest_fault, lacks_parents}
use Rattle.acta_table.specs.Numbered.{first_number, smallest}
use Rattle.acta_table.specs.Policies.{refuses}
use Rattle.acta_table.specs.Refusals.{broken_by}
use Rattle.acta_table.specs.Sets.{numbers_of, is_named}
use Rattle.acta_table.specs.WellFormed.{same_transaction}
use Rattle.acta_table.specs.declared.event.OpNo.{OpNo}
use Rattle.acta_objects.specs.Objects.{suits}
use Rattle.acta_axioms.specs.History.{starts, class_number, has_class, has_begun, has_ended, is_in_progress, spawner, parent_of}
use Rattle.acta_axioms.specs.Faults.{has_number, ill_formed, lacks_kind, cannot_form, in_conflict, without_heir, idle, not_in_time, wrong_return, is_due, is_same_ret, when}
use Rattle.acta_axioms.specs.History.{course, class_of}
use Rattle.acta_axioms.specs.Operations.{Operation, heir}
use Rattle.acta_axioms.specs.Claims.{MeetsAxioms, IsOrderly, status_at}
use Rattle.acta_values.specs.Conflicts.{is_well_formed}
use Rattle.acta_axioms.specs.Values as by_places
use Rattle.acta_axioms.proofs.EdgeGrowth.{EndsInProgress, edges-push, apart-push, course-orderly-push, orderly-none}
use Rattle.acta_axioms.proofs.Growth.{class_in, class_of-push, parent_of-push, started_within, parent_earlier}
use Rattle.acta_axioms.proofs.Permitting.{permitted-push, permits_begun-push, none-permitted}
use Rattle.acta_axioms.specs.Permits.{is_permitted}
use Rattle.acta_axioms.specs.inside.TxnRecords.{is_late}
use Rattle.acta_axioms.specs.inside.Walking.{permits_after}
use Rattle.acta_table.specs.Events.{permits}
use Rattle.acta_axioms.proofs.Statuses.{is_under_way, is_ended_status, in_progress-status, has_begun-status, status_at-push}
use Rattle.acta_axioms.proofs.Faultless.{IsFaultless, meets-none, meets-push, well_formed, faultless-begin, faultless-spawn, faultless-split, faultless-join, faultless-delegate, faultless-form, faultless-commit, faultless-abort, faultless-permit}
use Rattle.acta_table.specs.declared.answer.Fate.TheVariants.{Committed, Aborted}
use Rattle.acta_deps.specs.Statuses as by_status
use Rattle.acta_sets.specs.Operations.{added, moved, transferred, ended}
use Rattle.acta_machine.specs.Summary.{Summary, stood, terminated, permit_given, entered, linked, given, inherited, operated, fated, counted}
use Rattle.acta_machine.specs.Changes.{settled, effect, summary_of}
use Rattle.acta_machine.specs.Conflicts.{stands_against}
use Rattle.acta_machine.specs.Families.{heir_of}
use Rattle.acta_machine.specs.Families as families
use Rattle.acta_machine.specs.Values.{return_due}
use Rattle.acta_machine.specs.Rules.{not_in_progress, already_begun, not_in_model, partner_not_in_progress, not_responsible, wants_whole, partial_delegation, bad_set, refuses_conflicts, first_conflict, conflict, form_too_late, fails, too_late, lost_heir, no_heir, lowest_broken, earlier_broken, dependency, txn_may, class_may, forms_none}
use Rattle.acta_machine.specs.Table.{State, kept_as, answered, answer_to}
use Rattle.acta_machine.specs.Exactness.{RefusesIllegal, is_dependency_rule, is_refused_by_dependency}
use Rattle.acta_machine.specs.Places.{held_ops, HasParent, is_held_well, AreHeldWell, ArePermitsBegun, ShowsPlaces, FollowsPlaces}
use Rattle.acta_machine.proofs.Broken.{by_none, not_broken, in_progress, not_begun}
use Rattle.acta_machine.proofs.Unbroken.{Unbroken, unbroken, none-earlier, none-dependency, none-heirless}
use Rattle.acta_machine.proofs.ConflictTies.{conflict_edges-places}
use Rattle.acta_machine.proofs.FamilyTies.{has_class-places, heir-places}
use Rattle.acta_machine.proofs.Exactness.{IsChecked, IsExact, exact-on, dependency-rule}
use Rattle.acta_machine.proofs.Histories.{summary_more}
use Rattle.acta_machine.proofs.StatusGrowth.{statuses-begin, statuses-spawn, statuses-split, statuses-commit, statuses-abort, statuses-join, ended-places, begun-places, no_class, class-stays, classes-begin, classes-spawn, classes-split, parent-stays, parents-start}
use Rattle.acta_machine.proofs.OperationGrowth.{operations-begin, operations-spawn, operations-split, operations-join, operations-delegate, operations-form, operations-operate, operations-commit, operations-inherited, operations-abort, operations-permit}
use Rattle.acta_machine.proofs.Starting.{spawn_due, split_due, rooted-class}
use Rattle.acta_machine.proofs.HolderGrowth.{well-started, well-given, well-transferred, well-ended, well-added}
use Rattle.acta_axioms.proofs.Numbers.{holds}
use Rattle.acta_machine.proofs.Transferring.{named-held, held-named, none-unheld, none-left}
use Rattle.acta_machine.proofs.SetTies.{held-places}
use Rattle.acta_machine.proofs.ValueTies.{return-places, conflicting-none}

-- the form of an event that breaks no rule
well-formed : {A : Type 0} (m : Parts A) (s : Summary) (e : Event A) → Unbroken m s e → ill_formed m e ≡ []
well-formed m s e u = well_formed m e u.number u.class u.object u.operation u.same

-- a class that allows an event lacks nothing for it
lacks_nothing : {X : Type 0} (test : X → Bool) (o : Option X) → option_map_or test o false ≡ true → option_map_or (λ x. not (test x)) o false ≡ false
lacks_nothing test None e = cc
lacks_nothing test (Some x) e = ap not e

through : {X Y Z : Type 0} (f : Y → Option Z) (g : X → Y) (o : Option X) → option_and_then f (option_map g o) ≡ option_and_then (λ x. f (g x)) o
through f g None = refl
through f g (Some x) = refl

-- the class of t by the table and by places
has_no_lack : {A : Type 0} (m : Parts A) (s : Summary) (h : List (Kept A)) (kind : EventKind) (t : ℕ) → option_map (λ c. c.0) (s.class t) ≡ class_number h t → txn_may m s t kind ≡ true → lacks_kind m h kind t ≡ false
has_no_lack m s h kind t same may =
    ap (λ n. option_map_or (λ k. not (can_do kind k)) (option_and_then (class_at m) n) false) (sym same)
    ∙ ap (λ k. option_map_or (λ c. not (can_do kind c)) k false) (through (class_at m) (λ c. c.0) (s.class t))
    ∙ lacks_nothing (can_do kind) (families.class_of m s t) may

same_int : (v : _) → int_eq v v ≡ true
same_int v = int_eq_equiv.refl v

same_ret : (r : Ret) → is_same_ret r r ≡ true
same_ret Done = refl
same_ret (Value v) = same_int v
same_ret (Flag true) = refl
same_ret (Flag false) = refl

and_false : (b : Bool) (n : ℕ) → when (b && false) n ≡ []
and_false true n = refl
and_false false n = refl

-- the return that is due is not wrong
due_return : {A : Type 0} (m : Parts A) (h : List (Kept A)) (object n : ℕ) (op : Op) → when (is_well_formed m object op && not (is_due (by_places.return_due m h object op) (by_places.return_due m h object op))) n ≡ []
due_return m h object n op = of (kind_at m object)
  where
    of : (k : Option Kind) → when (option_map_or (λ kind. suits kind op) k false && not (is_due (option_map (λ kind. Rattle.acta_objects.specs.Objects.returned (by_places.value m h object kind) op) k) (option_map (λ kind. Rattle.acta_objects.specs.Objects.returned (by_places.value m h object kind) op) k))) n ≡ []
    of None = refl
    of (Some kind) =
        let due = Rattle.acta_objects.specs.Objects.returned (by_places.value m h object kind) op in
        ap (λ b. when (suits kind op && not b) n) (same_ret due) ∙ and_false (suits kind op) n

not_not : (b : Bool) → not b ≡ false → b ≡ true
not_not true e = refl
not_not false e = cc

not_twice : (b : Bool) → not (not b) ≡ b
not_twice true = refl
not_twice false = refl

both_true : (a b : Bool) → (a && b) ≡ true → (a ≡ true) × (b ≡ true)
both_true true b e = (refl, e)
both_true false b e = cc

no_class_lacks : {A : Type 0} (m : Parts A) (h : List (Kept A)) (kind : EventKind) (t : ℕ) → has_begun h t ≡ false → lacks_kind m h kind t ≡ false
no_class_lacks m h kind t new = ap (λ n. option_map_or (λ k. not (can_do kind k)) (option_and_then (class_at m) n) false) (no_class h t new)

-- two different transactions
two : (t u : ℕ) → (if t == u then Some t else None) ≡ None → u ≡ t → ⊥
two t u none same = of (t == u) (eq-eqb t u (sym same)) none
  where
    of : (b : Bool) → b ≡ true → (if b then Some t else None) ≡ None → ⊥
    of true is e = none-some t (sym e)
    of false is e = true≢false (sym is)

-- one of three, where the first is with one of the others never
no_heir_where : (has begin split : Bool) → (has && (begin || split)) ≡ false → (begin ≡ true) ⊎ (split ≡ true) → has ≡ false
no_heir_where false begin split e which = refl
no_heir_where true true split e which = cc
no_heir_where true false true e which = cc
no_heir_where true false false e (inl is) = absurd (true≢false (sym is))
no_heir_where true false false e (inr is) = absurd (true≢false (sym is))

module _ {A : Type 0} (m : Parts A) (h : List (Kept A)) (shows : ShowsPlaces m h (summary_of m h)) (begun : ArePermitsBegun h) where
  abbrev s : Summary
  s = summary_of m h

  abbrev item : Event A → Kept A
  item e = record { event = e; ret = return_due m s e }

  on_places : (t : ℕ) → s.status t ≡ InProgress → status_at h t ≡ InProgress
  on_places t e = sym (shows.status t) ∙ e

  -- in progress by places, in the form that the axioms test
  on_places_test : (t : ℕ) → s.status t ≡ InProgress → is_in_progress h t ≡ true
  on_places_test t e = in_progress-status h t ∙ ap is_under_way (on_places t e)

  new_on_places : (t : ℕ) → s.status t ≡ NotBegun → status_at h t ≡ NotBegun
  new_on_places t e = sym (shows.status t) ∙ e

  -- a transaction that may form edges, or has not begun, lacks nothing for it
  forms_some : (t : ℕ) → forms_none m s t ≡ false → lacks_kind m h form_kind t ≡ false
  forms_some t may = of_status (s.status t) refl may
    where
      begun_may : (x : Status) → by_status.has_begun x ≡ true → (by_status.has_begun x && not (txn_may m s t form_kind)) ≡ false → txn_may m s t form_kind ≡ true
      begun_may x has e = not_not (txn_may m s t form_kind) (ap (λ b. b && not (txn_may m s t form_kind)) (sym has) ∙ e)

      of_status : (x : Status) → s.status t ≡ x → (by_status.has_begun (s.status t) && not (txn_may m s t form_kind)) ≡ false → lacks_kind m h form_kind t ≡ false
      of_status NotBegun is e = no_class_lacks m h form_kind t (begun-places h t (sym (shows.status t) ∙ is))
      of_status x is e = has_no_lack m s h form_kind t (shows.class t) (begun_may (s.status t) (ap by_status.has_begun is) e)

  may_form : (kind : Dep) (j i : TxnId) → Unbroken m s (Form kind j i) → cannot_form m h (Form kind j i) ≡ false
  unfolding not_in_model
  may_form kind j i u =
      let all = both_true (list_any (can_do form_kind) m.classes && not (forms_none m s j.0)) (not (forms_none m s i.0)) (not_broken _ NotInModel u.model) in
      let of_j = both_true (list_any (can_do form_kind) m.classes) (not (forms_none m s j.0)) all.0 in
      let i_may : forms_none m s i.0 ≡ false = sym (not_twice (forms_none m s i.0)) ∙ ap not all.1 in
      let j_may : forms_none m s j.0 ≡ false = sym (not_twice (forms_none m s j.0)) ∙ ap not of_j.1 in
      λ n. not (of_j.0 n) || (forms_some j.0 j_may n || forms_some i.0 i_may n)

  in_time : (kind : Dep) (j i : TxnId) → too_late s kind j.0 i.0 ≡ None → not_in_time h (Form kind j i) ≡ []
  in_time kind j i none = of_kind (is_begin_kind kind) none
    where
      of_kind : (b : Bool) → (if b then fails s by_status.is_new j.0 else smallest (filter (λ t. by_status.has_ended (s.status t)) (j.0 ∷ i.0 ∷ []))) ≡ None
          → (if b then when (has_begun h j.0) j.0 else option_to_list (smallest (filter (has_ended h) (j.0 ∷ i.0 ∷ [])))) ≡ []
      of_kind true e = ap (λ b. when b j.0) (begun-places h j.0 (sym (shows.status j.0) ∙ not_begun s FormTooLate j.0 (ap (broken_by FormTooLate) e)))
      of_kind false e =
          let same : (t : ℕ) → by_status.has_ended (s.status t) ≡ has_ended h t = λ t. ap by_status.has_ended (shows.status t) ∙ ended-places h t in
          ap option_to_list (sym (λ n. smallest (filter (λ t. same t n) (j.0 ∷ i.0 ∷ []))) ∙ e)

  -- t's class requires all operations by places if it does by the table
  wants-places : (t : ℕ) → has_class (λ k. is_whole k.extent) m h t ≡ wants_whole m s t
  wants-places t = has_class-places (λ k. is_whole k.extent) m h s shows t

  may_do : (kind : EventKind) (t : TxnId) → txn_may m s t.0 kind ≡ true → when (lacks_kind m h kind t.0 || false) t.0 ≡ []
  may_do kind t may = λ i. when (has_no_lack m s h kind t.0 (shows.class t.0) may i || false) t.0

  -- a transaction that commits has an heir in progress, if its class requires one
  heir-ready : (t : TxnId) → HasParent m h t.0 → option_and_then (λ p. fails s by_status.is_in_progress p.0) (heir_of m s t.0) ≡ None → without_heir m h (Commit t) ≡ []
  heir-ready t parent none =
      of_class (has_class (λ k. has_heir k.at_commit) m h t.0) (parent_of h t.0) parent
      (ap (option_and_then (λ p. fails s by_status.is_in_progress p.0)) (sym (heir-places m h s shows t.0)) ∙ none)
    where
      of_class : (b : Bool) (p : Option TxnId) → (b ≡ true → is_some p ≡ true) → option_and_then (λ q. fails s by_status.is_in_progress q.0) (if b then p else None) ≡ None → (if b then option_map_or (λ u. idle h u.0) p (0 ∷ []) else []) ≡ []
      of_class false p has e = refl
      of_class true None has e = absurd (true≢false (sym (has refl)))
      of_class true (Some p) has e = ap (λ b. when (not b) p.0) (on_places_test p.0 (in_progress s NoHeir p.0 (ap (broken_by NoHeir) e)))

  -- an operation under a class that refuses conflicts with none
  refused-calm : (t : TxnId) (ob : ObjId) (op : Op) → first_conflict {A = A} m s (Operate t ob op) ≡ None → in_conflict m h (Operate t ob op) ≡ []
  refused-calm t ob op none =
      ap (λ b. if b then map (λ o. o.number) (by_places.conflicting m h t.0 ob.0 op) else []) (has_class-places (λ k. refuses k.policy) m h s shows t.0)
      ∙ of_class (refuses_conflicts m s t.0) none
    where
      of_class : (b : Bool) → (if b then first_number (stands_against m s t.0 ob op) s.operations else None) ≡ None → (if b then map (λ (o : Operation). o.number) (by_places.conflicting m h t.0 ob.0 op) else []) ≡ []
      of_class true e = ap (map (λ o. o.number)) (conflicting-none m h t.0 ob op shows e)
      of_class false e = refl

  faultless-of : ((t : ℕ) → HasParent m h t) → (e : Event A) → Unbroken m s e → no_heir m s e ≡ None → IsFaultless m h (item e)
  unfolding already_begun not_in_progress not_in_model partner_not_in_progress not_responsible partial_delegation bad_set conflict form_too_late no_heir
  faultless-of parents (Begin t class) u ready =
      let may = lacks_nothing (can_start begin_kind) (class_at m class.0) (not_broken (class_may m class.0 begin_kind) NotInModel u.model) in
      faultless-begin m h t class (new_on_places t.0 (not_begun s AlreadyBegun t.0 u.begun)) (well-formed m s (Begin t class) u) (λ i. when (may i || false) t.0)
  faultless-of parents (Spawn t v class) u ready =
      let both = both_true (class_may m class.0 spawn_kind) (txn_may m s t.0 spawn_kind) (not_broken _ NotInModel u.model) in
      let starts = lacks_nothing (can_start spawn_kind) (class_at m class.0) both.0 in
      let may = has_no_lack m s h spawn_kind t.0 (shows.class t.0) both.1 in
      faultless-spawn m h t v class
      (on_places t.0 (in_progress s NotInProgress t.0 u.progress))
      (new_on_places v.0 (not_begun s AlreadyBegun v.0 u.begun))
      (well-formed m s (Spawn t v class) u)
      (λ i. when (starts i || (may i || false)) t.0)
  faultless-of parents (Split t v class ops) u ready =
      let responsible = by_none NotResponsible _ u.responsible in
      let known = by_none BadSet _ u.set in
      let held = held-places m h s.operations t.0 shows.operations in
      let both = both_true (class_may m class.0 split_kind) (txn_may m s t.0 split_kind) (not_broken _ NotInModel u.model) in
      let starts = lacks_nothing (can_start split_kind) (class_at m class.0) both.0 in
      let may = has_no_lack m s h split_kind t.0 (shows.class t.0) both.1 in
      faultless-split m h t v class ops
      (on_places t.0 (in_progress s NotInProgress t.0 u.progress))
      (new_on_places v.0 (not_begun s AlreadyBegun v.0 u.begun))
      (well-formed m s (Split t v class ops) u)
      (λ i. when (starts i || (may i || false)) t.0)
      (ap (λ ns. filter (λ o. not (has_number ns o)) (numbers_of ops)) held ∙ none-unheld s.operations t.0 (numbers_of ops) (named-held s ops t.0 responsible known))
      ((λ i. if wants-places t.0 i then filter (λ o. not (is_named ops o)) (held i) else []) ∙ none-left s ops t.0 (wants_whole m s t.0) (by_none PartialDelegation _ u.whole))
  faultless-of parents (Join t v) u ready =
      faultless-join m h t v
      (on_places t.0 (in_progress s NotInProgress t.0 u.progress))
      (on_places v.0 (in_progress s PartnerNotInProgress v.0 u.partner))
      (well-formed m s (Join t v) u)
      (may_do join_kind t (not_broken (txn_may m s t.0 join_kind) NotInModel u.model))
  faultless-of parents (Delegate t v ops) u ready =
      let responsible = by_none NotResponsible _ u.responsible in
      let known = by_none BadSet _ u.set in
      let held = held-places m h s.operations t.0 shows.operations in
      faultless-delegate m h t v ops
      (on_places t.0 (in_progress s NotInProgress t.0 u.progress))
      (on_places v.0 (in_progress s PartnerNotInProgress v.0 u.partner))
      (well-formed m s (Delegate t v ops) u)
      (may_do delegate_kind t (not_broken (txn_may m s t.0 delegate_kind) NotInModel u.model))
      (ap (λ ns. filter (λ o. not (has_number ns o)) (numbers_of ops)) held ∙ none-unheld s.operations t.0 (numbers_of ops) (named-held s ops t.0 responsible known))
      ((λ i. if wants-places t.0 i then filter (λ o. not (is_named ops o)) (held i) else []) ∙ none-left s ops t.0 (wants_whole m s t.0) (by_none PartialDelegation _ u.whole))
  faultless-of parents (Form kind j i) u ready =
      faultless-form m h kind j i (well-formed m s (Form kind j i) u) (λ n. when (may_form kind j i u n) j.0) (in_time kind j i (by_none FormTooLate _ u.time))
  faultless-of parents (Operate t ob op) u ready =
      let calm = refused-calm t ob op (by_none Conflict _ u.conflict) in
      let due = return-places m h s.operations ob.0 op shows.operations in
      record {
        begun_once = refl;
        ended_after_begun = refl;
        ended_once = refl;
        operates_in_progress = λ i. when (not (on_places_test t.0 (in_progress s NotInProgress t.0 u.progress) i)) t.0;
        form_of_event = well-formed m s (Operate t ob op) u;
        allowed = may_do operate_kind t (not_broken (txn_may m s t.0 operate_kind) NotInModel u.model);
        parties_in_progress = refl;
        responsible = refl;
        transfers_whole = refl;
        conflict = calm;
        return = ap (λ r. wrong_return m h r (Operate t ob op)) due ∙ due_return m h ob.0 _ op;
        heir = refl;
        formed_in_time = refl;
      }
  faultless-of parents (Commit t) u ready =
      faultless-commit m h t (on_places t.0 (in_progress s NotInProgress t.0 u.progress)) (well-formed m s (Commit t) u)
      (may_do commit_kind t (not_broken (txn_may m s t.0 commit_kind) NotInModel u.model))
      (heir-ready t (parents t.0) (by_none NoHeir _ ready))
  faultless-of parents (Abort t) u ready =
      faultless-abort m h t (on_places t.0 (in_progress s NotInProgress t.0 u.progress)) (well-formed m s (Abort t) u)
      (may_do abort_kind t (not_broken (txn_may m s t.0 abort_kind) NotInModel u.model))
  faultless-of parents (Permit t v ob) u ready =
      faultless-permit m h t v ob
      (on_places t.0 (in_progress s NotInProgress t.0 u.progress))
      (on_places v.0 (in_progress s PartnerNotInProgress v.0 u.partner))
      (well-formed m s (Permit t v ob) u)
      (may_do permit_kind t (not_broken (txn_may m s t.0 permit_kind) NotInModel u.model))

  -- a transaction that is new has not begun by places
  unborn : (t : ℕ) → s.status t ≡ NotBegun → has_begun h t ≡ false
  unborn t new = has_begun-status h t (ap is_ended_status (new_on_places t new)) ∙ ap is_under_way (new_on_places t new)

  born : (t : ℕ) → s.status t ≡ InProgress → has_begun h t ≡ true
  born t on = has_begun-status h t (ap is_ended_status (on_places t on)) ∙ ap is_under_way (on_places t on)

  -- both transactions of a permit that breaks no rule have begun and not ended
  permit-begun : (e : Event A) → Unbroken m s e → (w v object : ℕ) → permits w v object e ≡ true → (has_begun h w ≡ true) × (has_begun h v ≡ true)
  unfolding not_in_progress partner_not_in_progress
  permit-begun (Permit t u ob) unbroken_by w v object is =
      let two = both_true ((t.0 == w) && (u.0 == v)) (ob.0 == object) is in
      let one = both_true (t.0 == w) (u.0 == v) two.0 in (
        ap (has_begun h) (sym (eqb-true t.0 w one.0)) ∙ born t.0 (in_progress s NotInProgress t.0 unbroken_by.progress),
        ap (has_begun h) (sym (eqb-true u.0 v one.1)) ∙ born u.0 (in_progress s PartnerNotInProgress u.0 unbroken_by.partner),
      )
  permit-begun e unbroken_by w v object is = absurd (true≢false (sym is))

  not-late : (e : Event A) → Unbroken m s e → is_late (has_ended h) e ≡ false
  unfolding not_in_progress partner_not_in_progress
  not-late (Permit t u ob) unbroken_by =
      λ i. not_ended t.0 (on_places_test t.0 (in_progress s NotInProgress t.0 unbroken_by.progress)) i || not_ended u.0 (on_places_test u.0 (in_progress s PartnerNotInProgress u.0 unbroken_by.partner)) i
    where
      not_ended : (w : ℕ) → is_in_progress h w ≡ true → has_ended h w ≡ false
      not_ended w is = sym (not_twice (has_ended h w)) ∙ ap not (both_true (has_begun h w) (not (has_ended h w)) is).1
  not-late e unbroken_by = refl

  pub permits-begun : (e : Event A) (ret : Option Ret) → Unbroken m s e → ArePermitsBegun (h ++ (record { event = e; ret = ret }) ∷ [])
  permits-begun e ret u = permits_begun-push h (record { event = e; ret = ret }) (permit-begun e u) begun

  permits-on : (e : Event A) (ret : Option Ret) → Unbroken m s e → (w v object : ℕ) → permits_after false e s.permits w v object ≡ is_permitted (h ++ (record { event = e; ret = ret }) ∷ []) w v object
  permits-on e ret u = permitted-push h (record { event = e; ret = ret }) s.permits shows.permits begun (permits-begun e ret u) (not-late e u)

  shows-begin : (t : TxnId) (class : ClassId) (ret : Option Ret) → Unbroken m s (Begin t class) → ShowsPlaces m (h ++ (record { event = Begin t class; ret = ret }) ∷ []) (effect {A = A} m s (Begin t class))
  unfolding already_begun stood entered linked counted
  shows-begin t class ret u =
      let k : Kept A = record { event = Begin t class; ret = ret } in
      let new = not_begun s AlreadyBegun t.0 u.begun in
      record {
        status = statuses-begin s.status h ret t class shows.status new;
        class = classes-begin s.class h ret t class shows.class (unborn t.0 new);
        parent = parents-start s.parent h k t None (λ w. refl) refl shows.parent (unborn t.0 new);
        operations = shows.operations ∙ sym (operations-begin m h ret t class);
        edges = shows.edges ∙ sym (edges-push m h (record { event = Begin t class; ret = ret }));
        permits = permits-on (Begin t class) ret u;
      }

  shows-spawn : (t v : TxnId) (class : ClassId) (ret : Option Ret) → Unbroken m s (Spawn t v class) → ShowsPlaces m (h ++ (record { event = Spawn t v class; ret = ret }) ∷ []) (effect {A = A} m s (Spawn t v class))
  unfolding already_begun not_in_progress stood entered linked counted
  shows-spawn t v class ret u =
      let k : Kept A = record { event = Spawn t v class; ret = ret } in
      let new = not_begun s AlreadyBegun v.0 u.begun in
      let on = in_progress s NotInProgress t.0 u.progress in
      record {
        status = statuses-spawn s.status h ret t v class shows.status new;
        class = classes-spawn s.class h ret t v class shows.class (unborn v.0 new);
        parent = parents-start s.parent h k v (Some t) (λ w. refl) (ap (λ b. if b then Some t else None) (born t.0 on)) shows.parent (unborn v.0 new);
        operations = shows.operations ∙ sym (operations-spawn m h ret t v class);
        edges = ap (λ es. formed es (spawn_due m t v class)) shows.edges ∙ sym (edges-push m h k);
        permits = permits-on (Spawn t v class) ret u;
      }

  shows-split : (t v : TxnId) (class : ClassId) (ops : List OpNo) (ret : Option Ret) → Unbroken m s (Split t v class ops) → ShowsPlaces m (h ++ (record { event = Split t v class ops; ret = ret }) ∷ []) (effect {A = A} m s (Split t v class ops))
  unfolding already_begun not_responsible bad_set stood entered given linked counted
  shows-split t v class ops ret u =
      let k : Kept A = record { event = Split t v class ops; ret = ret } in
      let new = not_begun s AlreadyBegun v.0 u.begun in
      let all = named-held s ops t.0 (by_none NotResponsible _ u.responsible) (by_none BadSet _ u.set) in
      record {
        status = statuses-split s.status h ret t v class ops shows.status new;
        class = classes-split s.class h ret t v class ops shows.class (unborn v.0 new);
        parent = parents-start s.parent h k v None (λ w. refl) refl shows.parent (unborn v.0 new);
        operations = ap (moved ops v) shows.operations ∙ sym (operations-split m h ret t v class ops (λ n named. ap (λ items. holds items t.0 n) (sym shows.operations) ∙ held-named s.operations t.0 ops all n named));
        edges = ap (λ es. formed es (split_due m t v class)) shows.edges ∙ sym (edges-push m h k);
        permits = permits-on (Split t v class ops) ret u;
      }

  shows-join : (t v : TxnId) (ret : Option Ret) → Unbroken m s (Join t v) → ShowsPlaces m (h ++ (record { event = Join t v; ret = ret }) ∷ []) (effect {A = A} m s (Join t v))
  unfolding not_in_progress terminated inherited linked counted
  shows-join t v ret u =
      let k : Kept A = record { event = Join t v; ret = ret } in
      record {
        status = statuses-join s.status h ret t v shows.status (in_progress s NotInProgress t.0 u.progress);
        class = λ w. shows.class w ∙ sym (class-stays h k w refl);
        parent = λ w. shows.parent w ∙ sym (parent-stays h k w refl);
        operations = ap (transferred t.0 v) shows.operations ∙ sym (operations-join m h ret t v);
        edges = shows.edges ∙ sym (edges-push m h k);
        permits = permits-on (Join t v) ret u;
      }

  shows-delegate : (t v : TxnId) (ops : List OpNo) (ret : Option Ret) → Unbroken m s (Delegate t v ops) → ShowsPlaces m (h ++ (record { event = Delegate t v ops; ret = ret }) ∷ []) (effect {A = A} m s (Delegate t v ops))
  unfolding not_responsible bad_set given linked counted
  shows-delegate t v ops ret u =
      let k : Kept A = record { event = Delegate t v ops; ret = ret } in
      let all = named-held s ops t.0 (by_none NotResponsible _ u.responsible) (by_none BadSet _ u.set) in
      record {
        status = λ w. shows.status w ∙ sym (status_at-push h k w);
        class = λ w. shows.class w ∙ sym (class-stays h k w refl);
        parent = λ w. shows.parent w ∙ sym (parent-stays h k w refl);
        operations = ap (moved ops v) shows.operations ∙ sym (operations-delegate m h ret t v ops (λ n named. ap (λ items. holds items t.0 n) (sym shows.operations) ∙ held-named s.operations t.0 ops all n named));
        edges = shows.edges ∙ sym (edges-push m h k);
        permits = permits-on (Delegate t v ops) ret u;
      }

  shows-form : (kind : Dep) (j i : TxnId) (ret : Option Ret) → Unbroken m s (Form kind j i) → ShowsPlaces m (h ++ (record { event = Form kind j i; ret = ret }) ∷ []) (effect {A = A} m s (Form kind j i))
  unfolding linked counted
  shows-form kind j i ret u =
      let k : Kept A = record { event = Form kind j i; ret = ret } in
      record {
        status = λ v. shows.status v ∙ sym (status_at-push h k v);
        class = λ v. shows.class v ∙ sym (class-stays h k v refl);
        parent = λ v. shows.parent v ∙ sym (parent-stays h k v refl);
        operations = shows.operations ∙ sym (operations-form m h ret kind j i);
        edges = ap (λ es. formed es ((record { kind = kind; j = j; i = i }) ∷ [])) shows.edges ∙ sym (edges-push m h k);
        permits = permits-on (Form kind j i) ret u;
      }

  shows-operate : (t : TxnId) (ob : ObjId) (op : Op) (ret : Option Ret) → Unbroken m s (Operate t ob op) → ShowsPlaces m (h ++ (record { event = Operate t ob op; ret = ret }) ∷ []) (effect {A = A} m s (Operate t ob op))
  unfolding operated linked counted
  shows-operate t ob op ret u =
      let k : Kept A = record { event = Operate t ob op; ret = ret } in
      record {
        status = λ v. shows.status v ∙ sym (status_at-push h k v);
        class = λ v. shows.class v ∙ sym (class-stays h k v refl);
        parent = λ v. shows.parent v ∙ sym (parent-stays h k v refl);
        operations = ap (λ items. added items t ob op) shows.operations ∙ sym (operations-operate m h ret t ob op);
        edges = (λ i. formed (shows.edges i) (conflict_edges-places m h shows t ob op i)) ∙ sym (edges-push m h k);
        permits = permits-on (Operate t ob op) ret u;
      }

  -- operations at a commit
  settled-operations : (t : TxnId) (ret : Option Ret) (o : Option TxnId) → heir m h t.0 ≡ o → (settled s t o).operations ≡ held_ops m (h ++ (record { event = Commit t; ret = ret }) ∷ [])
  unfolding inherited fated
  settled-operations t ret None none = ap (ended t.0 Committed) shows.operations ∙ sym (operations-commit m h ret t none)
  settled-operations t ret (Some v) is = ap (transferred t.0 v) shows.operations ∙ sym (operations-inherited m h ret t v is)

  -- the rest of the state at a commit
  shows-settled : (t : TxnId) (ret : Option Ret) (o : Option TxnId) → heir m h t.0 ≡ o → Unbroken m s (Commit t) → ShowsPlaces m (h ++ (record { event = Commit t; ret = ret }) ∷ []) (counted (settled (terminated s t has_committed) t o))
  unfolding terminated inherited fated counted
  shows-settled t ret None none u =
      let k : Kept A = record { event = Commit t; ret = ret } in
      record {
        status = statuses-commit s.status h ret t shows.status;
        class = λ v. shows.class v ∙ sym (class-stays h k v refl);
        parent = λ v. shows.parent v ∙ sym (parent-stays h k v refl);
        operations = settled-operations t ret None none;
        edges = shows.edges ∙ sym (edges-push m h k);
        permits = permits-on (Commit t) ret u;
      }
  shows-settled t ret (Some w) is u =
      let k : Kept A = record { event = Commit t; ret = ret } in
      record {
        status = statuses-commit s.status h ret t shows.status;
        class = λ v. shows.class v ∙ sym (class-stays h k v refl);
        parent = λ v. shows.parent v ∙ sym (parent-stays h k v refl);
        operations = settled-operations t ret (Some w) is;
        edges = shows.edges ∙ sym (edges-push m h k);
        permits = permits-on (Commit t) ret u;
      }

  shows-commit : (t : TxnId) (ret : Option Ret) → Unbroken m s (Commit t) → ShowsPlaces m (h ++ (record { event = Commit t; ret = ret }) ∷ []) (effect {A = A} m s (Commit t))
  unfolding linked
  shows-commit t ret u = shows-settled t ret (heir_of m s t.0) (sym (heir-places m h s shows t.0)) u

  shows-abort : (t : TxnId) (ret : Option Ret) → Unbroken m s (Abort t) → ShowsPlaces m (h ++ (record { event = Abort t; ret = ret }) ∷ []) (effect {A = A} m s (Abort t))
  unfolding not_in_progress terminated fated linked counted
  shows-abort t ret u =
      let k : Kept A = record { event = Abort t; ret = ret } in
      record {
        status = statuses-abort s.status h ret t shows.status (in_progress s NotInProgress t.0 u.progress);
        class = λ v. shows.class v ∙ sym (class-stays h k v refl);
        parent = λ v. shows.parent v ∙ sym (parent-stays h k v refl);
        operations = ap (ended t.0 Aborted) shows.operations ∙ sym (operations-abort m h ret t);
        edges = shows.edges ∙ sym (edges-push m h k);
        permits = permits-on (Abort t) ret u;
      }

  shows-permit : (t v : TxnId) (ob : ObjId) (ret : Option Ret) → Unbroken m s (Permit t v ob) → ShowsPlaces m (h ++ (record { event = Permit t v ob; ret = ret }) ∷ []) (effect {A = A} m s (Permit t v ob))
  unfolding permit_given linked counted
  shows-permit t v ob ret u =
      let k : Kept A = record { event = Permit t v ob; ret = ret } in
      record {
        status = λ w. shows.status w ∙ sym (status_at-push h k w);
        class = λ w. shows.class w ∙ sym (class-stays h k w refl);
        parent = λ w. shows.parent w ∙ sym (parent-stays h k w refl);
        operations = shows.operations ∙ sym (operations-permit m h ret t v ob);
        edges = shows.edges ∙ sym (edges-push m h k);
        permits = permits-on (Permit t v ob) ret u;
      }

  pub shows_on : (e : Event A) (ret : Option Ret) → Unbroken m s e → ShowsPlaces m (h ++ (record { event = e; ret = ret }) ∷ []) (effect m s e)
  shows_on (Begin t class) ret u = shows-begin t class ret u
  shows_on (Spawn t v class) ret u = shows-spawn t v class ret u
  shows_on (Split t v class ops) ret u = shows-split t v class ops ret u
  shows_on (Join t v) ret u = shows-join t v ret u
  shows_on (Delegate t v ops) ret u = shows-delegate t v ops ret u
  shows_on (Form kind j i) ret u = shows-form kind j i ret u
  shows_on (Operate t ob op) ret u = shows-operate t ob op ret u
  shows_on (Commit t) ret u = shows-commit t ret u
  shows_on (Abort t) ret u = shows-abort t ret u
  shows_on (Permit t v ob) ret u = shows-permit t v ob ret u

  -- a class that may start by a begin or a split does not commit to parents
  no-heir-class : (class : ℕ) (kind : EventKind) → lowest_fault m ≡ None → class_may m class kind ≡ true → (kind ≡ begin_kind) ⊎ (kind ≡ split_kind) → option_map_or (λ k. has_heir k.at_commit) (class_at m class) false ≡ false
  no-heir-class class kind faultless may which = of_class (class_at m class) (rooted-class m faultless class) may which
    where
      of_class : (k : Option (Class A)) → option_map_or lacks_parents k false ≡ false → option_map_or (can_start kind) k false ≡ true → (kind ≡ begin_kind) ⊎ (kind ≡ split_kind) → option_map_or (λ c. has_heir c.at_commit) k false ≡ false
      of_class None rooted may which = refl
      of_class (Some k) rooted may (inl is) = no_heir_where (has_heir k.at_commit) k.starts.begin k.starts.split rooted (inl (ap (λ x. can_start x k) (sym is) ∙ may))
      of_class (Some k) rooted may (inr is) = no_heir_where (has_heir k.at_commit) k.starts.begin k.starts.split rooted (inr (ap (λ x. can_start x k) (sym is) ∙ may))

  -- a transaction that is started with a class that commits to parents has a parent
  started-parent : lowest_fault m ≡ None → (e : Event A) → Unbroken m s e → (t : ℕ) → starts t e ≡ true → option_map_or (λ k. has_heir k.at_commit) (class_in m e) false ≡ true → is_some (spawner h e) ≡ true
  unfolding not_in_model not_in_progress
  started-parent faultless (Begin v class) u t is has =
      absurd (true≢false (sym has ∙ no-heir-class class.0 begin_kind faultless (not_broken (class_may m class.0 begin_kind) NotInModel u.model) (inl refl)))
  started-parent faultless (Spawn v c class) u t is has =
      ap (λ b. is_some (if b then Some v else None)) (born v.0 (in_progress s NotInProgress v.0 u.progress))
  started-parent faultless (Split v c class ops) u t is has =
      absurd (true≢false (sym has ∙ no-heir-class class.0 split_kind faultless (both_true (class_may m class.0 split_kind) (txn_may m s v.0 split_kind) (not_broken _ NotInModel u.model)).0 (inr refl)))
  started-parent faultless e u t is has = absurd (true≢false (sym is))

  parents-push : lowest_fault m ≡ None → (e : Event A) (ret : Option Ret) → Unbroken m s e → ((t : ℕ) → HasParent m h t) → (t : ℕ) → HasParent m (h ++ (record { event = e; ret = ret }) ∷ []) t
  parents-push faultless e ret u parents t has =
      let k : Kept A = record { event = e; ret = ret } in
      ap is_some (parent_of-push h k t)
      ∙ of_start (has_begun h t) (starts t e) refl (sym (ap (λ c. option_map_or (λ x. has_heir x.at_commit) c false) (class_of-push m h k t)) ∙ has)
    where
      of_start : (b c : Bool) → starts t e ≡ c → option_map_or (λ x. has_heir x.at_commit) (if b then class_of m h t else if c then class_in m e else None) false ≡ true → is_some (if b then parent_of h t else if c then spawner h e else None) ≡ true
      of_start true c is has = parents t has
      of_start false true is has = started-parent faultless e u t is has
      of_start false false is has = absurd (true≢false (sym has))

  -- a parent is a different transaction
  other-parent : (t : ℕ) (p : TxnId) → s.status t ≡ InProgress → parent_of h t ≡ Some p → p.0 ≡ t → ⊥
  other-parent t p on is same =
      let at = started_within h t (born t on) in
      let earlier = parent_earlier h t at.0 p is at.1 in
      let here : earlier.0 ≡ at.0 = same_Some earlier.0 at.0 (sym earlier.1 ∙ ap (λ u. (course h u).start) same ∙ at.1) in
      let low = earlier.2 in
      omega (arith, here, low)

  -- a transaction in progress is still in progress when another ends
  still_on : (t : ℕ) (x : Status) (u : ℕ) → (u ≡ t → ⊥) → s.status u ≡ InProgress → by_status.is_in_progress (by_status.with_status s.status t x u) ≡ true
  still_on t x u ne on = (λ i. by_status.is_in_progress (if ne_eqb u t ne i then x else on i))

  -- every heir is a parent
  heir-parent : (t p : TxnId) → heir_of m s t.0 ≡ Some p → parent_of h t.0 ≡ Some p
  heir-parent t p is = sym (shows.parent t.0) ∙ of_class (families.has_class (λ k. has_heir k.at_commit) m s t.0) (s.parent t.0) is
    where
      of_class : (b : Bool) (o : Option TxnId) → (if b then o else None) ≡ Some p → o ≡ Some p
      of_class true o e = e
      of_class false o e = cc

  -- holders of operations in progress are still in progress
  well-settled : (t : TxnId) (o : Option TxnId) → s.status t.0 ≡ InProgress → ((p : TxnId) → o ≡ Some p → parent_of h t.0 ≡ Some p) → option_and_then (λ p. fails s by_status.is_in_progress p.0) o ≡ None → AreHeldWell s
      → AreHeldWell (counted (settled (terminated s t has_committed) t o))
  unfolding terminated inherited fated counted
  well-settled t None on at none well = well-ended s.status t.0 has_committed Committed refl s.operations well
  well-settled t (Some p) on at none well =
      well-transferred s.status t.0 has_committed p (still_on t.0 has_committed p.0 (other-parent t.0 p on (at p refl)) (in_progress s NoHeir p.0 (ap (broken_by NoHeir) none))) s.operations well

  well-after : (e : Event A) → Unbroken m s e → no_heir m s e ≡ None → AreHeldWell s → AreHeldWell (effect m s e)
  unfolding not_in_progress partner_not_in_progress same_transaction no_heir stood terminated permit_given entered linked given inherited operated fated counted
  well-after (Begin t class) u ready well = well-started s.status t.0 s.operations well
  well-after (Spawn t v class) u ready well = well-started s.status v.0 s.operations well
  well-after (Split t v class ops) u ready well =
      well-given (by_status.with_status s.status v.0 InProgress) ops v
      (ap (λ b. by_status.is_in_progress (if b then InProgress else s.status v.0)) (eq-eqb v.0 v.0 refl))
      s.operations (well-started s.status v.0 s.operations well)
  well-after (Join t v) u ready well =
      well-transferred s.status t.0 has_joined v (still_on t.0 has_joined v.0 (two t.0 v.0 (by_none SameTransaction _ u.same)) (in_progress s PartnerNotInProgress v.0 u.partner)) s.operations well
  well-after (Delegate t v ops) u ready well =
      well-given s.status ops v (ap by_status.is_in_progress (in_progress s PartnerNotInProgress v.0 u.partner)) s.operations well
  well-after (Form kind j i) u ready well = well
  well-after (Operate t ob op) u ready well =
      well-added s.status t ob op (ap by_status.is_in_progress (in_progress s NotInProgress t.0 u.progress)) s.operations well
  well-after (Commit t) u ready well =
      well-settled t (heir_of m s t.0) (in_progress s NotInProgress t.0 u.progress) (heir-parent t) (by_none NoHeir _ ready) well
  well-after (Abort t) u ready well = well-ended s.status t.0 has_aborted Aborted refl s.operations well
  well-after (Permit t v ob) u ready well = well

  holders-push : (e : Event A) (ret : Option Ret) → Unbroken m s e → no_heir m s e ≡ None → AreHeldWell s → AreHeldWell (summary_of m (h ++ (record { event = e; ret = ret }) ∷ []))
  holders-push e ret u ready well = ap (λ (x : Summary). list_all (is_held_well x.status) x.operations) (summary_more m h (record { event = e; ret = ret })) ∙ well-after e u ready well

-- a transaction that ends was in progress
ends-in-progress : {A : Type 0} (m : Parts A) (h : List (Kept A)) (shows : ShowsPlaces m h (summary_of m h)) (e : Event A) → Unbroken m (summary_of m h) e → EndsInProgress h e
unfolding not_in_progress
ends-in-progress m h shows (Begin t class) u = tt
ends-in-progress m h shows (Spawn t v class) u = tt
ends-in-progress m h shows (Split t v class ops) u = tt
ends-in-progress m h shows (Join t v) u = sym (shows.status t.0) ∙ in_progress (summary_of m h) NotInProgress t.0 u.progress
ends-in-progress m h shows (Delegate t v ops) u = tt
ends-in-progress m h shows (Form kind j i) u = tt
ends-in-progress m h shows (Operate t ob op) u = tt
ends-in-progress m h shows (Commit t) u = sym (shows.status t.0) ∙ in_progress (summary_of m h) NotInProgress t.0 u.progress
ends-in-progress m h shows (Abort t) u = sym (shows.status t.0) ∙ in_progress (summary_of m h) NotInProgress t.0 u.progress
ends-in-progress m h shows (Permit t v ob) u = tt

orderly-push : {A : Type 0} (m : Parts A) (h : List (Kept A)) (k : Kept A) (shows : ShowsPlaces m h (summary_of m h)) → IsOrderly m h → Unbroken m (summary_of m h) k.event → IsOrderly m (h ++ k ∷ [])
orderly-push m h k shows orderly u = record {
  courses = course-orderly-push h k orderly.courses (ends-in-progress m h shows k.event u);
  edges = apart-push m h k orderly.edges u.same;
}

-- after an event that breaks none of the earlier rules, the summary is that by places
pub shows-push : {A : Type 0} (m : Parts A) (h : List (Kept A)) (k : Kept A) → ShowsPlaces m h (summary_of m h) → ArePermitsBegun h → Unbroken m (summary_of m h) k.event → ShowsPlaces m (h ++ k ∷ []) (summary_of m (h ++ k ∷ []))
shows-push m h k shows begun u =
    subst (λ (x : Summary). ShowsPlaces m (h ++ k ∷ []) x) (sym (summary_more m h k)) (shows_on m h shows begun k.event k.ret u)

-- the rules on dependencies refuse exactly what would be illegal
pub exact-push : {A : Type 0} (m : Parts A) (h : List (Kept A)) (k : Kept A) → IsChecked m (summary_of m h) → AreHeldWell (summary_of m h) → ShowsPlaces m h (summary_of m h) → MeetsAxioms m h → IsOrderly m h → earlier_broken m (summary_of m h) k.event ≡ None → IsExact m (h ++ k ∷ []) (summary_of m h) k.event
exact-push m h k checked well shows meets orderly none =
    let u = unbroken m (summary_of m h) k.event none in
    exact-on m h k checked well shows meets orderly u (orderly-push m h k shows orderly u)

refused-by : {A : Type 0} (state : State A) (e : Event A) → earlier_broken state.model (summary_of state.model state.kept) e ≡ None → is_refused_by_dependency (answer_to state e) ≡ is_some (dependency (summary_of state.model state.kept) e)
unfolding answer_to no_heir
refused-by state e none =
    let s = summary_of state.model state.kept in
    ap (λ (r : Option Refusal). is_refused_by_dependency (answered state e (option_or (option_or r (dependency s e)) (no_heir state.model s e)))) none
    ∙ of_rule (dependency s e) (dependency-rule s e) (lost_heir state.model s e)
  where
    of_heir : (lost : Option ℕ) → is_refused_by_dependency (answered state e (broken_by NoHeir lost)) ≡ false
    of_heir None = refl
    of_heir (Some p) = refl

    of_rule : (r : Option Refusal) → IfSome r (λ x. is_dependency_rule x.rule ≡ true) → (lost : Option ℕ) → is_refused_by_dependency (answered state e (option_or r (broken_by NoHeir lost))) ≡ is_some r
    of_rule None is lost = of_heir lost
    of_rule (Some r) is lost = is

refuses-illegal : {A : Type 0} (m : Parts A) (h : List (Kept A)) → IsChecked m (summary_of m h) → AreHeldWell (summary_of m h) → ShowsPlaces m h (summary_of m h) → MeetsAxioms m h → IsOrderly m h → (e : Event A) → RefusesIllegal (record { model = m; kept = h }) e
refuses-illegal m h checked well shows meets orderly e none =
    refused-by (record { model = m; kept = h }) e none ∙ (exact-push m h (kept_as (record { model = m; kept = h }) e) checked well shows meets orderly none).refuses

follows-of : {A : Type 0} (m : Parts A) (h : List (Kept A)) → IsChecked m (summary_of m h) → AreHeldWell (summary_of m h) → ShowsPlaces m h (summary_of m h) → MeetsAxioms m h → IsOrderly m h → ((t : ℕ) → HasParent m h t) → ArePermitsBegun h → FollowsPlaces (record { model = m; kept = h })
follows-of m h checked well shows meets orderly parents begun =
    record {
      shows = shows;
      meets = meets;
      orderly = orderly;
      parents = parents;
      holders = well;
      permits = begun;
      exact = refuses-illegal m h checked well shows meets orderly;
      edges_exact = λ e none. (exact-push m h (kept_as (record { model = m; kept = h }) e) checked well shows meets orderly none).equivalent;
      clashes_exact = λ e none. (exact-push m h (kept_as (record { model = m; kept = h }) e) checked well shows meets orderly none).clashes;
    }

-- after an event that breaks no rule, table and places still agree
pub follows-push : {A : Type 0} (m : Parts A) (h : List (Kept A)) (e : Event A) → lowest_fault m ≡ None → FollowsPlaces (record { model = m; kept = h }) → lowest_broken m (summary_of m h) e ≡ None
    → FollowsPlaces (record { model = m; kept = h ++ kept_as (record { model = m; kept = h }) e ∷ [] })
follows-push m h e faultless follows none =
    let earlier = none-earlier m (summary_of m h) e none in
    let u = unbroken m (summary_of m h) e earlier in
    let k = kept_as (record { model = m; kept = h }) e in
    let legal = not_not _ (sym (exact-push m h k (λ t on. faultless) follows.holders follows.shows follows.meets follows.orderly earlier).refuses ∙ ap is_some (none-dependency m (summary_of m h) e none)) in
    follows-of m (h ++ k ∷ []) (λ t on. faultless) (holders-push m h follows.shows follows.permits e k.ret u (none-heirless m (summary_of m h) e none) follows.holders) (shows-push m h k follows.shows follows.permits u)
    (meets-push m h k follows.meets (faultless-of m h follows.shows follows.permits follows.parents e u (none-heirless m (summary_of m h) e none)) legal)
    (orderly-push m h k follows.shows follows.orderly u)
    (parents-push m h follows.shows follows.permits faultless e k.ret u follows.parents)
    (permits-begun m h follows.shows follows.permits e k.ret u)

-- table and places agree on the empty history
pub follows-fresh : {A : Type 0} (m : Parts A) → FollowsPlaces (record { model = m; kept = [] })
unfolding summary_of
follows-fresh {A} m =
    follows-of m [] (λ t on. cc) refl (record { status = λ t. refl; class = λ t. refl; parent = λ t. refl; operations = refl; edges = refl; permits = λ t u object. none-permitted A t u object }) (meets-none m) (orderly-none m) (λ t has. absurd (true≢false (sym has))) (λ t u object is. absurd (true≢false (sym is)))
