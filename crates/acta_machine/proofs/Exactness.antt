-- The rules on dependencies refuse an event exactly if the history with it would not be legal, and the debts of the
-- table are those by places.
use Rattle.std.proofs.Common.{◌≡◌, ℕ, ◌+◌, Bool, true, false, ◌&&◌, not, List, [], ◌∷◌, ◌++◌, filter, length, map, Option, Some, None, refl, sym, ap, subst, ◌∙◌}
use Rattle.std.specs.Prelude.{is_some, IfSome, if◌then◌else◌}
use Rattle.std.specs.List.{list_any, list_all}
use Rattle.std.proofs.lemmas.Bool.{true≢false, or_parts}
use Rattle.acta_table.specs.declared.answer.Status.TheVariants.{NotBegun, InProgress, Committed, Aborted}
use Rattle.acta_table.specs.declared.answer.Refusal.{Refusal}
use Rattle.acta_table.specs.declared.answer.Rule.TheVariants.{NotInProgress, AlreadyBegun, FormTooLate}
use Rattle.acta_table.specs.declared.dep.Dep.{Dep}
use Rattle.acta_table.specs.declared.dep.Edge.{Edge}
use Rattle.acta_table.specs.declared.event.ClassId.{ClassId}
use Rattle.acta_table.specs.declared.event.ObjId.{ObjId}
use Rattle.acta_table.specs.declared.event.Op.{Op}
use Rattle.acta_table.specs.declared.event.OpNo.{OpNo}
use Rattle.acta_table.specs.declared.answer.Status.{Status}
use Rattle.acta_table.specs.declared.event.Event.{Event}
use Rattle.acta_table.specs.declared.event.Event.TheVariants.{Begin, Spawn, Split, Join, Delegate, Form, Operate, Commit, Abort, Permit}
use Rattle.acta_table.specs.declared.event.Kept.{Kept}
use Rattle.acta_table.specs.declared.event.Ret.{Ret}
use Rattle.acta_table.specs.declared.event.TxnId.{TxnId}
use Rattle.acta_table.specs.declared.model.Parts.{Parts}
use Rattle.acta_table.specs.Dependencies.{is_begin_kind}
use Rattle.acta_table.specs.Edges.{is_among, formed}
use Rattle.acta_table.specs.Faults.{lowest_fault}
use Rattle.acta_table.specs.Numbered.{smallest}
use Rattle.acta_table.specs.Refusals.{broken_by}
use Rattle.acta_axioms.specs.declared.course.Course.{Course}
use Rattle.acta_axioms.specs.History.{course, end, has_ended}
use Rattle.acta_axioms.specs.Edges.{edges}
use Rattle.acta_axioms.specs.Formulas.{is_false}
use Rattle.acta_axioms.specs.Legal.{is_legal, is_broken_in, has_clash, owed}
use Rattle.acta_axioms.specs.Claims.{MeetsAxioms, IsOrderly, is_apart, course_status, status_at}
use Rattle.acta_axioms.proofs.EdgeGrowth.{edges-push, course-within, course-other, course-begin, course-spawn, course-split, course-join, course-commit, course-abort}
use Rattle.acta_deps.specs.Debts.{owed_in}
use Rattle.acta_deps.specs.Dependencies.{start_refusal, commit_refusal, abort_refusal, join_refusal}
use Rattle.acta_deps.specs.Statuses.{with_status}
use Rattle.acta_deps.specs.Statuses as by_status
use Rattle.acta_machine.specs.Summary.{Summary}
use Rattle.acta_machine.specs.Changes.{summary_of}
use Rattle.acta_machine.specs.Rules.{not_in_progress, already_begun, form_too_late, fails, too_late, dependency}
use Rattle.acta_machine.specs.Conflicts.{conflict_edges}
use Rattle.acta_machine.specs.Exactness.{is_dependency_rule, edge_refuses, refuses_start, debts_meet, meet_then}
use Rattle.acta_machine.specs.Places.{ShowsPlaces, AreHeldWell}
use Rattle.acta_machine.proofs.Broken.{by_none, is_begun, in_progress, not_begun}
use Rattle.acta_machine.proofs.ConflictTies.{conflict_edges-places, holding-conflicts}
use Rattle.acta_machine.proofs.Courses.{is_broken_by, clashes_by, is_legal_by}
use Rattle.acta_machine.proofs.DependencyTies.{IsExactBy, is_neutral, starts-exact, commits-exact, aborts-exact, joins-exact, owed-tie, forms-legal, all-legal, start-formed, meet-formed, start-rule, commit-rule, abort-rule, join-rule}
use Rattle.acta_machine.proofs.EdgeSteps.{formed-begin, formed-other}
use Rattle.acta_machine.proofs.Starting.{spawn_due, split_due, holds_in, neutral-spawn, neutral-split, holding-spawn, holding-split}
use Rattle.acta_machine.proofs.StatusGrowth.{flipped, statuses-begin, statuses-spawn, statuses-split, statuses-commit, statuses-abort, statuses-join, ended-places, begun-places}
use Rattle.acta_machine.proofs.Unbroken.{Unbroken}

-- the broken rule on dependencies, if any

if_some : (o : Option Refusal) → ((r : Refusal) → o ≡ Some r → is_dependency_rule r.rule ≡ true) → IfSome o (λ r. is_dependency_rule r.rule ≡ true)
if_some None rule = tt
if_some (Some r) rule = rule r refl

pub dependency-rule : {A : Type 0} (s : Summary) (e : Event A) → IfSome (dependency s e) (λ r. is_dependency_rule r.rule ≡ true)
dependency-rule s (Begin t class) = if_some (start_refusal s.status s.edges t.0) (start-rule s.status s.edges t.0)
dependency-rule s (Spawn t u class) = if_some (start_refusal s.status s.edges u.0) (start-rule s.status s.edges u.0)
dependency-rule s (Split t u class ops) = if_some (start_refusal s.status s.edges u.0) (start-rule s.status s.edges u.0)
dependency-rule s (Join t u) = if_some (join_refusal s.status s.edges t.0) (join-rule s.status s.edges t.0)
dependency-rule s (Delegate t u ops) = tt
dependency-rule s (Form kind j i) = tt
dependency-rule s (Operate t ob op) = tt
dependency-rule s (Commit t) = if_some (commit_refusal s.status s.edges t.0) (commit-rule s.status s.edges t.0)
dependency-rule s (Abort t) = if_some (abort_refusal s.status s.edges t.0) (abort-rule s.status s.edges t.0)
dependency-rule s (Permit t u ob) = tt

-- legality by places is legality by courses
legal-by : {A : Type 0} (m : Parts A) (h : List (Kept A)) → is_legal m h ≡ is_legal_by (course h) (edges m h)
unfolding is_legal
legal-by m h = refl

both_not : (a b : Bool) → (not a && not b) ≡ true → (a ≡ false) × (b ≡ false)
both_not true b e = absurd (true≢false (sym e))
both_not false true e = absurd (true≢false (sym e))
both_not false false e = (refl, refl)

-- no edge of a legal list is broken, and no debts clash
legal-unbroken : (courses : ℕ → Course) (es : List Edge) → is_legal_by courses es ≡ true → list_any (is_broken_by courses) es ≡ false
legal-unbroken courses es legal = (both_not (list_any (is_broken_by courses) es) (list_any (clashes_by courses es) es) legal).0

legal-calm : (courses : ℕ → Course) (es : List Edge) → is_legal_by courses es ≡ true → list_any (clashes_by courses es) es ≡ false
legal-calm courses es legal = (both_not (list_any (is_broken_by courses) es) (list_any (clashes_by courses es) es) legal).1

-- no edge of a legal history is broken
unbroken-edges : {A : Type 0} (m : Parts A) (h : List (Kept A)) → is_legal m h ≡ true → list_any (is_broken_by (course h)) (edges m h) ≡ false
unbroken-edges m h legal = legal-unbroken (course h) (edges m h) (sym (legal-by m h) ∙ legal)

-- the course of a transaction that has not begun, and of one in progress
no_start : (c : Course) → course_status c ≡ NotBegun → c.start ≡ None
no_start c = of c.start c.commit c.abort c.join
  where
    of : (s k a j : Option ℕ) → course_status (record { start = s; commit = k; abort = a; join = j }) ≡ NotBegun → s ≡ None
    of None k a j e = refl
    of (Some n) (Some x) a j e = cc
    of (Some n) None (Some x) j e = cc
    of (Some n) None None (Some x) e = cc
    of (Some n) None None None e = cc

-- a transaction in progress has not ended
record NoEnd (c : Course) : Type 0 where
  commit : c.commit ≡ None
  abort : c.abort ≡ None
  join : c.join ≡ None

no_end : (c : Course) → course_status c ≡ InProgress → NoEnd c
no_end c = of c.start c.commit c.abort c.join
  where
    of : (s k a j : Option ℕ) → course_status (record { start = s; commit = k; abort = a; join = j }) ≡ InProgress → NoEnd (record { start = s; commit = k; abort = a; join = j })
    of s (Some x) a j e = cc
    of s None (Some x) j e = cc
    of s None None (Some x) e = cc
    of s None None None e = record { commit = refl; abort = refl; join = refl }

-- if there is no smallest of two conditional numbers, neither condition is true
none_of : (a b : Bool) (j i : ℕ) → smallest (if a then j ∷ (if b then i ∷ [] else []) else (if b then i ∷ [] else [])) ≡ None → (a ≡ false) × (b ≡ false)
none_of true true j i e = cc
none_of true false j i e = cc
none_of false true j i e = cc
none_of false false j i e = (refl, refl)

-- the model is checked if any transaction is in progress
abbrev pub IsChecked : {A : Type 0} → Parts A → Summary → Type 0
IsChecked m s = (t : ℕ) → s.status t ≡ InProgress → lowest_fault m ≡ None

-- an event is refused exactly if the longer history is not legal, edge by edge and for clashing debts
pub record IsExactAs {A : Type 0} (m : Parts A) (later : List (Kept A)) (refused clash : Bool) (test : Edge → Bool) : Type 0 where
  pub refuses : refused ≡ not (is_legal m later)
  pub equivalent : map test (edges m later) ≡ map (is_broken_in later) (edges m later)
  pub clashes : clash ≡ has_clash m later

abbrev pub IsExact : {A : Type 0} → Parts A → List (Kept A) → Summary → Event A → Type 0
IsExact m later s e = IsExactAs m later (is_some (dependency s e)) (debts_meet s e) (edge_refuses s e)

-- if no edge passes a test, the test equals one that never passes
none-equivalent : (test : Edge → Bool) (es : List Edge) → list_any test es ≡ false → map (λ _. false) es ≡ map test es
none-equivalent test [] none = refl
none-equivalent test (e ∷ es) none =
    let parts = or_parts (test e) (list_any test es) none in
    λ x. sym parts.0 x ∷ none-equivalent test es parts.1 x

-- an event that cannot be refused leaves the history legal
legal-exact : {A : Type 0} (m : Parts A) (later : List (Kept A)) → is_legal m later ≡ true → IsExactAs m later false false (λ _. false)
legal-exact m later legal =
    let by_courses = sym (legal-by m later) ∙ legal in
    record {
      refuses = ap not (sym legal);
      equivalent = none-equivalent (is_broken_by (course later)) (edges m later) (legal-unbroken (course later) (edges m later) by_courses);
      clashes = sym (legal-calm (course later) (edges m later) by_courses);
    }

-- exactness by courses and these edges is exactness in the longer history, which has these edges
exact-in : {A : Type 0} (m : Parts A) (later : List (Kept A)) (es : List Edge) (refused refused_by clash clash_by : Bool) (test : Edge → Bool) → edges m later ≡ es → refused ≡ refused_by → clash ≡ clash_by
    → IsExactBy (course later) es refused_by clash_by test → IsExactAs m later refused clash test
exact-in m later es refused refused_by clash clash_by test grown refuses clashes by = record {
  refuses = refuses ∙ by.refuses ∙ ap (λ x. not (is_legal_by (course later) x)) (sym grown) ∙ ap not (sym (legal-by m later));
  equivalent = subst (λ x. map test x ≡ map (is_broken_in later) x) (sym grown) by.equivalent;
  clashes = clashes ∙ by.clashes ∙ ap (λ x. list_any (clashes_by (course later) x) x) (sym grown);
}

module _ {A : Type 0} (m : Parts A) (h : List (Kept A)) (shows : ShowsPlaces m h (summary_of m h)) (meets : MeetsAxioms m h) (orderly : IsOrderly m h) where
  abbrev s : Summary
  s = summary_of m h

  abbrev with_event : Event A → Option Ret → List (Kept A)
  with_event e ret = h ++ (record { event = e; ret = ret }) ∷ []

  exact-begin : (t : TxnId) (class : ClassId) (ret : Option Ret) → Unbroken m s (Begin t class) → IsOrderly m (with_event (Begin t class) ret)
      → IsExact m (with_event (Begin t class) ret) s (Begin t class)
  unfolding already_begun
  exact-begin t class ret u later =
      let e : Event A = Begin t class in
      let new = not_begun s AlreadyBegun t.0 u.begun in
      exact-in m (with_event e ret) (edges m h) _ _ _ _ _ (edges-push m h (record { event = e; ret = ret })) (ap (λ es. is_some (start_refusal s.status es t.0)) shows.edges) (ap (λ es. meet_then s.status es t.0 InProgress) shows.edges)
      (starts-exact s.status (course h) (course (with_event e ret)) (edges m h) (length h) t.0 shows.status orderly.courses (course-within h) orderly.edges (unbroken-edges m h meets.legal)
      (λ v ne. course-other h (record { event = e; ret = ret }) v (flipped t.0 v ne) refl refl refl) later.courses
      new (course-begin h t class ret (no_start (course h t.0) (sym (shows.status t.0) ∙ new))) (statuses-begin s.status h ret t class shows.status new))

  exact-commit : (t : TxnId) (ret : Option Ret) → Unbroken m s (Commit t) → IsOrderly m (with_event (Commit t) ret)
      → IsExact m (with_event (Commit t) ret) s (Commit t)
  unfolding not_in_progress
  exact-commit t ret u later =
      let e : Event A = Commit t in
      let on = in_progress s NotInProgress t.0 u.progress in
      exact-in m (with_event e ret) (edges m h) _ _ _ _ _ (edges-push m h (record { event = e; ret = ret })) (ap (λ es. is_some (commit_refusal s.status es t.0)) shows.edges) (ap (λ es. meet_then s.status es t.0 Committed) shows.edges)
      (commits-exact s.status (course h) (course (with_event e ret)) (edges m h) (length h) t.0 shows.status orderly.courses (course-within h) orderly.edges (unbroken-edges m h meets.legal)
      (λ v ne. course-other h (record { event = e; ret = ret }) v refl (flipped t.0 v ne) refl refl) later.courses
      on (course-commit h t ret (no_end (course h t.0) (sym (shows.status t.0) ∙ on)).commit) (statuses-commit s.status h ret t shows.status))

  exact-abort : (t : TxnId) (ret : Option Ret) → Unbroken m s (Abort t) → IsOrderly m (with_event (Abort t) ret)
      → IsExact m (with_event (Abort t) ret) s (Abort t)
  unfolding not_in_progress
  exact-abort t ret u later =
      let e : Event A = Abort t in
      let on = in_progress s NotInProgress t.0 u.progress in
      exact-in m (with_event e ret) (edges m h) _ _ _ _ _ (edges-push m h (record { event = e; ret = ret })) (ap (λ es. is_some (abort_refusal s.status es t.0)) shows.edges) (ap (λ es. meet_then s.status es t.0 Aborted) shows.edges)
      (aborts-exact s.status (course h) (course (with_event e ret)) (edges m h) (length h) t.0 shows.status orderly.courses (course-within h) orderly.edges (unbroken-edges m h meets.legal)
      (λ v ne. course-other h (record { event = e; ret = ret }) v refl refl (flipped t.0 v ne) refl) later.courses
      on (course-abort h t ret (no_end (course h t.0) (sym (shows.status t.0) ∙ on)).abort) (statuses-abort s.status h ret t shows.status on))

  -- a transaction joins another
  exact-join : (t v : TxnId) (ret : Option Ret) → Unbroken m s (Join t v) → IsOrderly m (with_event (Join t v) ret)
      → IsExact m (with_event (Join t v) ret) s (Join t v)
  unfolding not_in_progress
  exact-join t v ret u later =
      let e : Event A = Join t v in
      let on = in_progress s NotInProgress t.0 u.progress in
      exact-in m (with_event e ret) (edges m h) _ _ _ _ _ (edges-push m h (record { event = e; ret = ret })) (ap (λ es. is_some (join_refusal s.status es t.0)) shows.edges) refl
      (joins-exact s.status (course h) (course (with_event e ret)) (edges m h) (length h) t.0 shows.status orderly.courses (course-within h) orderly.edges (unbroken-edges m h meets.legal)
      (λ w ne. course-other h (record { event = e; ret = ret }) w refl refl refl (flipped t.0 w ne)) later.courses
      on (course-join h t v ret (no_end (course h t.0) (sym (shows.status t.0) ∙ on)).join) (statuses-join s.status h ret t v shows.status on)
      (legal-calm (course h) (edges m h) (sym (legal-by m h) ∙ meets.legal)))

  still_open : (w : ℕ) (x : Status) → s.status w ≡ x → by_status.has_ended x ≡ false → is_some (end (course h w)) ≡ false
  still_open w x is calm = sym (ended-places h w) ∙ ap by_status.has_ended (sym (shows.status w) ∙ is) ∙ calm

  -- t starts another transaction: its edges are formed first, and block nothing
  exact-start : (k : Kept A) (v : ℕ) (due : List Edge) → s.status v ≡ NotBegun → edges m (h ++ k ∷ []) ≡ formed (edges m h) due
      → list_all (is_neutral s.status v) due ≡ true → list_all (holds_in (course h)) due ≡ true
      → ((w : ℕ) → (w ≡ v → ⊥) → course (h ++ k ∷ []) w ≡ course h w) → course (h ++ k ∷ []) v ≡ record (course h v) { start = Some (length h + 1) }
      → ((w : ℕ) → with_status s.status v InProgress w ≡ status_at (h ++ k ∷ []) w) → IsOrderly m (h ++ k ∷ [])
      → IsExactAs m (h ++ k ∷ []) (is_some (start_refusal s.status s.edges v)) (meet_then s.status s.edges v InProgress) (refuses_start s.status v)
  exact-start k v due new grown neutral holding others started statuses later =
      let linked = all-legal (course h) (edges m h) due (sym (legal-by m h) ∙ meets.legal) holding in
      exact-in m (h ++ k ∷ []) (formed (edges m h) due) _ _ _ _ _ grown
      (ap (λ es. is_some (start_refusal s.status es v)) shows.edges ∙ sym (start-formed s.status (edges m h) due v neutral))
      (ap (λ es. meet_then s.status es v InProgress) shows.edges ∙ sym (meet-formed s.status (edges m h) due v neutral))
      (starts-exact s.status (course h) (course (h ++ k ∷ [])) (formed (edges m h) due) (length h) v shows.status orderly.courses (course-within h)
      (ap (list_all is_apart) (sym grown) ∙ later.edges) (legal-unbroken (course h) (formed (edges m h) due) linked)
      others later.courses new started statuses)

  exact-spawn : IsChecked m s → (t v : TxnId) (class : ClassId) (ret : Option Ret) → Unbroken m s (Spawn t v class) → IsOrderly m (with_event (Spawn t v class) ret)
      → IsExact m (with_event (Spawn t v class) ret) s (Spawn t v class)
  unfolding already_begun not_in_progress
  exact-spawn checked t v class ret u later =
      let k : Kept A = record { event = Spawn t v class; ret = ret } in
      let on = in_progress s NotInProgress t.0 u.progress in
      let new = not_begun s AlreadyBegun v.0 u.begun in
      exact-start k v.0 (spawn_due m t v class) new (edges-push m h k)
      (neutral-spawn m s.status t v class (checked t.0 on) on)
      (holding-spawn m (course h) t v class (checked t.0 on) (still_open t.0 InProgress on refl) (still_open v.0 NotBegun new refl))
      (λ w ne. course-other h k w (flipped v.0 w ne) refl refl refl)
      (course-spawn h t v class ret (no_start (course h v.0) (sym (shows.status v.0) ∙ new)))
      (statuses-spawn s.status h ret t v class shows.status new) later

  exact-split : IsChecked m s → (t v : TxnId) (class : ClassId) (ops : List OpNo) (ret : Option Ret) → Unbroken m s (Split t v class ops) → IsOrderly m (with_event (Split t v class ops) ret)
      → IsExact m (with_event (Split t v class ops) ret) s (Split t v class ops)
  unfolding already_begun not_in_progress
  exact-split checked t v class ops ret u later =
      let k : Kept A = record { event = Split t v class ops; ret = ret } in
      let on = in_progress s NotInProgress t.0 u.progress in
      let new = not_begun s AlreadyBegun v.0 u.begun in
      exact-start k v.0 (split_due m t v class) new (edges-push m h k)
      (neutral-split m s.status t v class (checked t.0 on) on)
      (holding-split m (course h) t v class (checked t.0 on) (still_open t.0 InProgress on refl) (still_open v.0 NotBegun new refl))
      (λ w ne. course-other h k w (flipped v.0 w ne) refl refl refl)
      (course-split h t v class ops ret (no_start (course h v.0) (sym (shows.status v.0) ∙ new)))
      (statuses-split s.status h ret t v class ops shows.status new) later

  -- the formula of an edge that is formed in time is true
  formed-holds : (kind : Dep) (j i : TxnId) → too_late s kind j.0 i.0 ≡ None → is_false kind (course h j.0) (course h i.0) ≡ false
  formed-holds kind j i none = of_kind (is_begin_kind kind) refl none
    where
      of_kind : (b : Bool) → is_begin_kind kind ≡ b → (if b then fails s by_status.is_new j.0 else smallest (filter (λ t. by_status.has_ended (s.status t)) (j.0 ∷ i.0 ∷ []))) ≡ None
          → is_false kind (course h j.0) (course h i.0) ≡ false
      of_kind true is e = formed-begin kind (course h j.0) (course h i.0) is (begun-places h j.0 (sym (shows.status j.0) ∙ not_begun s FormTooLate j.0 (ap (broken_by FormTooLate) e)))
      of_kind false is e =
          let same : (t : ℕ) → by_status.has_ended (s.status t) ≡ has_ended h t = λ t. ap by_status.has_ended (shows.status t) ∙ ended-places h t in
          let neither = none_of (by_status.has_ended (s.status j.0)) (by_status.has_ended (s.status i.0)) j.0 i.0 e in
          formed-other kind (course h j.0) (course h i.0) is (sym (same j.0) ∙ neither.0) (sym (same i.0) ∙ neither.1)

  -- an edge that is formed in time leaves the history legal
  legal-form : (kind : Dep) (j i : TxnId) (ret : Option Ret) → Unbroken m s (Form kind j i) → is_legal m (with_event (Form kind j i) ret) ≡ true
  unfolding form_too_late
  legal-form kind j i ret u =
      let k : Kept A = record { event = Form kind j i; ret = ret } in
      let e : Edge = record { kind = kind; j = j; i = i } in
      legal-by m (h ++ k ∷ [])
      ∙ (λ n. is_legal_by (λ v. course-other h k v refl refl refl refl n) (edges-push m h k n))
      ∙ of_known (is_among (edges m h) e)
    where
      of_known : (b : Bool) → is_legal_by (course h) (if b then edges m h else edges m h ++ (record { kind = kind; j = j; i = i }) ∷ []) ≡ true
      of_known true = sym (legal-by m h) ∙ meets.legal
      of_known false = forms-legal (course h) (edges m h) (record { kind = kind; j = j; i = i }) (sym (legal-by m h) ∙ meets.legal) (formed-holds kind j i (by_none FormTooLate _ u.time))

  -- so does an operation: the formulas of its edges are true
  legal-operate : IsChecked m s → AreHeldWell s → (t : TxnId) (ob : ObjId) (op : Op) (ret : Option Ret) → Unbroken m s (Operate t ob op) → is_legal m (with_event (Operate t ob op) ret) ≡ true
  unfolding not_in_progress
  legal-operate checked well t ob op ret u =
      let k : Kept A = record { event = Operate t ob op; ret = ret } in
      let on = in_progress s NotInProgress t.0 u.progress in
      let due = conflict_edges m s t ob op in
      let grown : edges m (h ++ k ∷ []) ≡ formed (edges m h) due = edges-push m h k ∙ ap (formed (edges m h)) (sym (conflict_edges-places m h shows t ob op)) in
      let open_on : (w : ℕ) → by_status.is_in_progress (s.status w) ≡ true → is_some (end (course h w)) ≡ false = λ w is. still_open w InProgress (is_begun (s.status w) is) refl in
      legal-by m (h ++ k ∷ []) ∙ (λ n. is_legal_by (λ v. course-other h k v refl refl refl refl n) (grown n))
      ∙ all-legal (course h) (edges m h) due (sym (legal-by m h) ∙ meets.legal)
      (holding-conflicts m s (course h) (checked t.0 on) well t ob op (still_open t.0 InProgress on refl) open_on)

  -- so does a delegation
  legal-delegate : (t v : TxnId) (ops : _) (ret : Option Ret) → is_legal m (with_event (Delegate t v ops) ret) ≡ true
  legal-delegate t v ops ret =
      let k : Kept A = record { event = Delegate t v ops; ret = ret } in
      legal-by m (h ++ k ∷ []) ∙ (λ n. is_legal_by (λ w. course-other h k w refl refl refl refl n) (edges-push m h k n)) ∙ sym (legal-by m h) ∙ meets.legal

  -- so does a permit
  legal-permit : (t v : TxnId) (ob : ObjId) (ret : Option Ret) → is_legal m (with_event (Permit t v ob) ret) ≡ true
  legal-permit t v ob ret =
      let k : Kept A = record { event = Permit t v ob; ret = ret } in
      legal-by m (h ++ k ∷ []) ∙ (λ n. is_legal_by (λ w. course-other h k w refl refl refl refl n) (edges-push m h k n)) ∙ sym (legal-by m h) ∙ meets.legal

  exact-of : IsChecked m s → AreHeldWell s → (e : Event A) (ret : Option Ret) → Unbroken m s e → IsOrderly m (with_event e ret) → IsExact m (with_event e ret) s e
  exact-of checked well (Begin t class) ret u later = exact-begin t class ret u later
  exact-of checked well (Spawn t v class) ret u later = exact-spawn checked t v class ret u later
  exact-of checked well (Split t v class ops) ret u later = exact-split checked t v class ops ret u later
  exact-of checked well (Join t v) ret u later = exact-join t v ret u later
  exact-of checked well (Delegate t v ops) ret u later = legal-exact m _ (legal-delegate t v ops ret)
  exact-of checked well (Form kind j i) ret u later = legal-exact m _ (legal-form kind j i ret u)
  exact-of checked well (Operate t ob op) ret u later = legal-exact m _ (legal-operate checked well t ob op ret u)
  exact-of checked well (Commit t) ret u later = exact-commit t ret u later
  exact-of checked well (Abort t) ret u later = exact-abort t ret u later
  exact-of checked well (Permit t v ob) ret u later = legal-exact m _ (legal-permit t v ob ret)

pub exact-on : {A : Type 0} (m : Parts A) (h : List (Kept A)) (k : Kept A) → IsChecked m (summary_of m h) → AreHeldWell (summary_of m h) → ShowsPlaces m h (summary_of m h) → MeetsAxioms m h → IsOrderly m h → Unbroken m (summary_of m h) k.event → IsOrderly m (h ++ k ∷ [])
    → IsExact m (h ++ k ∷ []) (summary_of m h) k.event
exact-on m h k checked well shows meets orderly u later = exact-of m h shows meets orderly checked well k.event k.ret u later

-- the debts by the table are the debts by places
pub owed-places : {A : Type 0} (m : Parts A) (h : List (Kept A)) → ShowsPlaces m h (summary_of m h) → IsOrderly m h → owed_in (summary_of m h).status (summary_of m h).edges ≡ owed m h
unfolding owed
owed-places m h shows orderly =
    ap (owed_in (summary_of m h).status) shows.edges ∙ owed-tie (summary_of m h).status (course h) (edges m h) shows.status orderly.courses
