-- The rules on dependencies, by statuses, agree with the formulas of the edges, by courses.
use Rattle.std.proofs.Common.{◌≡◌, ℕ, ◌+◌, Bool, true, false, ◌&&◌, ◌||◌, not, ◌==◌, if◌then◌else◌, List, [], ◌∷◌, ◌++◌, map, filter, Option, Some, None, is_some, is_none, option_map, refl, sym, ap, ◌∙◌, inl, inr, eq-eqb, arith}
use Rattle.std.specs.List.{list_any, list_all, filter_map, cons_option, position_from, enumerate_from}
use Rattle.std.specs.Option.{option_or}
use Rattle.std.proofs.lemmas.Bool.{true≢false, eqb-true, ne_eqb, cases_eq, and_parts, or_parts}
use Rattle.std.proofs.lemmas.Bool.Decides.{nat_tests}
use Rattle.std.proofs.lemmas.List.Folds.{list_any-append}
use Rattle.acta_table.specs.declared.answer.Status.{Status}
use Rattle.acta_table.specs.declared.answer.Status.TheVariants.{NotBegun, InProgress, Committed, Aborted, Joined}
use Rattle.acta_table.specs.declared.answer.Rule.{Rule}
use Rattle.acta_table.specs.declared.answer.Rule.TheVariants.{Clash}
use Rattle.acta_table.specs.declared.answer.Refusal.{Refusal}
use Rattle.acta_table.specs.declared.dep.Dep.{Dep}
use Rattle.acta_table.specs.declared.dep.Dep.TheVariants.{Cd, Scd, Ad, Wd, Ed, Cmd, Bd, Sd, Bcd, Bad, Wcd}
use Rattle.acta_table.specs.declared.dep.Edge.{Edge}
use Rattle.acta_table.specs.declared.dep.Missing.{Missing}
use Rattle.acta_table.specs.declared.dep.Missing.TheVariants.{Commit, Abort}
use Rattle.acta_table.specs.Dependencies.{is_begin_kind, is_commit, is_abort}
use Rattle.acta_table.specs.Edges.{is_among, with_edge, formed}
use Rattle.acta_table.specs.Numbered.{first_number, smallest}
use Rattle.acta_table.specs.Refusals.{broken_by}
use Rattle.acta_deps.specs.Statuses.{with_status, has_committed, has_aborted}
use Rattle.acta_deps.specs.Debts.{missing_if, debt_by as debt_in, debt_of, owes_abort, owed_at, owed_from, owed_in, clashes_by as clashes_in}
use Rattle.acta_deps.specs.Dependencies.{awaits_begin, awaits_end, awaits_commit, awaits_abort, ends_after, committed_first, began_first, cannot_pay_commit, cannot_pay_abort, begin_dep, serial_dep, begin_on_commit, begin_on_abort, termination_dep, owing_abort, owing_commit, commit_order, weak_begin, unpayable_commit, unpayable_abort, clash, start_refusal, commit_refusal, abort_refusal, join_refusal}
use Rattle.acta_axioms.specs.declared.course.Course.{Course}
use Rattle.acta_axioms.specs.History.{end}
use Rattle.acta_axioms.specs.Formulas.{is_false, is_broken, payment}
use Rattle.acta_axioms.specs.Claims.{course_status, is_orderly, is_apart}
use Rattle.acta_axioms.specs.Legal.{owed_on}
use Rattle.acta_axioms.specs.inside.Within.{IsWithin}
use Rattle.acta_machine.specs.Exactness.{is_dependency_rule, refuses_start, refuses_commit, refuses_abort, refuses_join, meet_then}
use Rattle.acta_machine.proofs.Courses.{debt_by, is_broken_by, owes_abort_by, clashes_by, is_legal_by}
use Rattle.acta_machine.proofs.EdgeSteps.{begun, committed, aborted, joined, begin-j, begin-i, commit-j, commit-i, abort-j, abort-i, join-j, join-i, debts-tie}

-- a rule on edges is broken if some edge passes its test
some_first : (rule : Rule) (test : Edge → Bool) (n : ℕ) (es : List Edge) → is_some (broken_by rule (position_from test n es)) ≡ list_any test es
some_first rule test n [] = refl
some_first rule test n (e ∷ es) = by (test e) (some_first rule test (n + 1) es)
  where
    by : (b : Bool) → is_some (broken_by rule (position_from test (n + 1) es)) ≡ list_any test es
        → is_some (broken_by rule (if b then Some n else position_from test (n + 1) es)) ≡ (b || list_any test es)
    by true h = refl
    by false h = h

some_rule : (rule : Rule) (test : Edge → Bool) (es : List Edge) → is_some (broken_by rule (first_number test es)) ≡ list_any test es
some_rule rule test es = some_first rule test 1 es

-- there is a smallest number exactly if there is a number
some_smallest : (rule : Rule) (test : Edge → Bool) (es : List Edge) → is_some (broken_by rule (smallest (map (λ e. e.j.0) (filter test es)))) ≡ list_any test es
some_smallest rule test [] = refl
some_smallest rule test (e ∷ es) = by (test e) (some_smallest rule test es)
  where
    by : (b : Bool) → is_some (broken_by rule (smallest (map (λ e. e.j.0) (filter test es)))) ≡ list_any test es
        → is_some (broken_by rule (smallest (map (λ e. e.j.0) (if b then e ∷ filter test es else filter test es)))) ≡ (b || list_any test es)
    by true h = refl
    by false h = h

-- one of two tests passes at some edge
any-or : (f g : Edge → Bool) (es : List Edge) → (list_any f es || list_any g es) ≡ list_any (λ e. f e || g e) es
any-or f g [] = refl
any-or f g (e ∷ es) = regroup (f e) (list_any f es) (g e) (list_any g es) ∙ ap (λ b. (f e || g e) || b) (any-or f g es)
  where
    regroup : (a b c d : Bool) → ((a || b) || (c || d)) ≡ ((a || c) || (b || d))
    regroup true b c d = refl
    regroup false true true d = refl
    regroup false true false d = refl
    regroup false false c d = refl

-- one of two rules is broken
or_more : (o p : Option Refusal) (a b : Bool) → is_some o ≡ a → is_some p ≡ b → is_some (option_or o p) ≡ (a || b)
or_more None p a b e d = rw (sym e, sym d) refl
or_more (Some r) p a b e d = rw (sym e) refl

or_tests : (o p : Option Refusal) (f g : Edge → Bool) (es : List Edge) → is_some o ≡ list_any f es → is_some p ≡ list_any g es → is_some (option_or o p) ≡ list_any (λ e. f e || g e) es
or_tests o p f g es e d = or_more o p (list_any f es) (list_any g es) e d ∙ any-or f g es

some_clash : (status : ℕ → Status) (es : List Edge) (t : ℕ) (s : Status) → is_some (clash status es t s) ≡ meet_then status es t s
unfolding clash
some_clash status es t s = some_smallest Clash (clashes_in (with_status status t s) es) es

-- an event is refused if an edge blocks it or debts would clash
start_tests : (status : ℕ → Status) (es : List Edge) (t : ℕ) → is_some (start_refusal status es t) ≡ (list_any (refuses_start status t) es || meet_then status es t InProgress)
unfolding start_refusal begin_dep serial_dep begin_on_commit begin_on_abort
start_tests status es t =
    or_more _ _ _ _
    (or_tests _ _ _ _ es
    (or_tests _ _ _ _ es
    (or_tests _ _ _ _ es (some_rule _ _ es) (some_rule _ _ es))
    (some_rule _ _ es))
    (some_rule _ _ es))
    (some_clash status es t InProgress)

commit_tests : (status : ℕ → Status) (es : List Edge) (t : ℕ) → is_some (commit_refusal status es t) ≡ (list_any (refuses_commit status t) es || meet_then status es t Committed)
unfolding commit_refusal termination_dep owing_abort commit_order weak_begin unpayable_commit
commit_tests status es t =
    or_more _ _ _ _
    (or_tests _ _ _ _ es
    (or_tests _ _ _ _ es
    (or_tests _ _ _ _ es
    (or_tests _ _ _ _ es (some_rule _ _ es) (some_rule _ _ es))
    (some_rule _ _ es))
    (some_rule _ _ es))
    (some_rule _ _ es))
    (some_clash status es t Committed)

abort_tests : (status : ℕ → Status) (es : List Edge) (t : ℕ) → is_some (abort_refusal status es t) ≡ (list_any (refuses_abort status t) es || meet_then status es t Aborted)
unfolding abort_refusal termination_dep owing_commit unpayable_abort
abort_tests status es t =
    or_more _ _ _ _
    (or_tests _ _ _ _ es
    (or_tests _ _ _ _ es (some_rule _ _ es) (some_rule _ _ es))
    (some_rule _ _ es))
    (some_clash status es t Aborted)

join_tests : (status : ℕ → Status) (es : List Edge) (t : ℕ) → is_some (join_refusal status es t) ≡ list_any (refuses_join status t) es
unfolding join_refusal owing_abort owing_commit
join_tests status es t = or_tests _ _ _ _ es (some_rule _ _ es) (some_rule _ _ es)

-- tests that agree on each edge between two transactions that is not broken agree on a list of such edges
equivalent : (f g broken : Edge → Bool) → ((e : Edge) → is_apart e ≡ true → broken e ≡ false → f e ≡ g e) → (es : List Edge) → list_all is_apart es ≡ true → list_any broken es ≡ false → map f es ≡ map g es
equivalent f g broken same [] apart whole = refl
equivalent f g broken same (e ∷ es) apart whole =
    let a = and_parts (is_apart e) (list_all is_apart es) apart in
    let w = or_parts (broken e) (list_any broken es) whole in
    λ i. same e a.0 w.0 i ∷ equivalent f g broken same es a.1 w.1 i

-- whether some edge passes a test, computed from the results
any-map : (f : Edge → Bool) (es : List Edge) → list_any f es ≡ list_any (λ b. b) (map f es)
any-map f [] = refl
any-map f (e ∷ es) = ap (λ b. f e || b) (any-map f es)

any_equivalent : (f g : Edge → Bool) (es : List Edge) → map f es ≡ map g es → list_any f es ≡ list_any g es
any_equivalent f g es same = any-map f es ∙ ap (list_any (λ b. b)) same ∙ sym (any-map g es)

-- the debt of an edge is the same by statuses and by courses
owes_equivalent : (status : ℕ → Status) (courses : ℕ → Course) → ((u : ℕ) → status u ≡ course_status (courses u)) → ((u : ℕ) → is_orderly (courses u) ≡ true) → (e : Edge) → debt_of status e ≡ debt_by courses e
owes_equivalent status courses shows orderly e =
    (λ x. debt_in e.kind (shows e.i.0 x) (shows e.j.0 x))
    ∙ debts-tie e.kind (courses e.j.0) (courses e.i.0) (orderly e.j.0) (orderly e.i.0)

clashes_equivalent : (status : ℕ → Status) (courses : ℕ → Course) → ((u : ℕ) → status u ≡ course_status (courses u)) → ((u : ℕ) → is_orderly (courses u) ≡ true) → (es : List Edge)
    → list_any (clashes_in status es) es ≡ list_any (clashes_by courses es) es
clashes_equivalent status courses shows orderly es =
    let same = owes_equivalent status courses shows orderly in
    λ x. list_any (λ e. is_commit (same e x) && list_any (λ f. (f.j.0 == e.j.0) && is_abort (same f x)) es) es

-- an edge is between two transactions, so only one of them is t
not_both : (j i t : ℕ) → not (j == i) ≡ true → ((j == t) && (i == t)) ≡ false
not_both j i t apart = grind (arith, nat_tests)

or-false : (b : Bool) → (b || false) ≡ b
or-false true = refl
or-false false = refl

-- an unbroken edge blocks the event exactly if the event of its j or i, or of neither, breaks its formula
module _ (kind : Dep) (n : ℕ) (cj ci : Course) (orderly_j : is_orderly cj ≡ true) (orderly_i : is_orderly ci ≡ true) (within_j : IsWithin n cj) (within_i : IsWithin n ci) (whole : is_broken kind cj ci ≡ false) where
  start_edge : (of_j of_i : Bool) → (of_j && of_i) ≡ false → (of_j ≡ true → course_status cj ≡ NotBegun) → (of_i ≡ true → course_status ci ≡ NotBegun)
      → ((of_j && awaits_begin kind (course_status ci)) || (of_j && awaits_end kind (course_status ci)) || (of_j && awaits_commit kind (course_status ci)) || (of_j && awaits_abort kind (course_status ci)))
      ≡ is_broken kind (if of_j then begun (n + 1) cj else cj) (if of_i then begun (n + 1) ci else ci)
  start_edge true true one new_j new_i = cc
  start_edge true false one new_j new_i = sym (begin-j kind n cj ci orderly_j orderly_i within_i (new_j refl))
  start_edge false true one new_j new_i = sym (begin-i kind n cj ci orderly_j orderly_i (new_i refl) whole)
  start_edge false false one new_j new_i = sym whole

  commit_edge : (of_j of_i : Bool) → (of_j && of_i) ≡ false → (of_j ≡ true → course_status cj ≡ InProgress) → (of_i ≡ true → course_status ci ≡ InProgress)
      → ((of_j && ends_after kind (course_status ci)) || (of_j && is_abort (debt_in kind (course_status ci) (course_status cj))) || (of_i && committed_first kind (course_status cj)) || (of_i && began_first kind (course_status cj)) || (of_i && cannot_pay_commit kind (course_status cj)))
      ≡ is_broken kind (if of_j then committed (n + 1) cj else cj) (if of_i then committed (n + 1) ci else ci)
  commit_edge true true one on_j on_i = cc
  commit_edge true false one on_j on_i =
      or-false _ ∙ or-false _ ∙ or-false _
      ∙ (λ x. ends_after kind (course_status ci) || is_abort (debt_in kind (course_status ci) (on_j refl x)))
      ∙ sym (commit-j kind n cj ci orderly_j orderly_i within_i (on_j refl) whole)
  commit_edge false true one on_j on_i = sym (commit-i kind n cj ci orderly_j orderly_i within_j (on_i refl) whole)
  commit_edge false false one on_j on_i = sym whole

  abort_edge : (of_j of_i : Bool) → (of_j && of_i) ≡ false → (of_j ≡ true → course_status cj ≡ InProgress) → (of_i ≡ true → course_status ci ≡ InProgress)
      → ((of_j && ends_after kind (course_status ci)) || (of_j && is_commit (debt_in kind (course_status ci) (course_status cj))) || (of_i && cannot_pay_abort kind (course_status cj)))
      ≡ is_broken kind (if of_j then aborted (n + 1) cj else cj) (if of_i then aborted (n + 1) ci else ci)
  abort_edge true true one on_j on_i = cc
  abort_edge true false one on_j on_i =
      or-false _
      ∙ (λ x. ends_after kind (course_status ci) || is_commit (debt_in kind (course_status ci) (on_j refl x)))
      ∙ sym (abort-j kind n cj ci orderly_j orderly_i within_i (on_j refl) whole)
  abort_edge false true one on_j on_i = sym (abort-i kind n cj ci orderly_j orderly_i within_j (on_i refl) whole)
  abort_edge false false one on_j on_i = sym whole

  join_edge : (of_j of_i : Bool) → (of_j && of_i) ≡ false → (of_j ≡ true → course_status cj ≡ InProgress)
      → ((of_j && is_abort (debt_in kind (course_status ci) (course_status cj))) || (of_j && is_commit (debt_in kind (course_status ci) (course_status cj))))
      ≡ is_broken kind (if of_j then joined (n + 1) cj else cj) (if of_i then joined (n + 1) ci else ci)
  join_edge true true one on_j = cc
  join_edge true false one on_j =
      (λ x. is_abort (debt_in kind (course_status ci) (on_j refl x)) || is_commit (debt_in kind (course_status ci) (on_j refl x)))
      ∙ sym (join-j kind n cj ci orderly_j orderly_i (on_j refl) whole)
  join_edge false true one on_j = sym (join-i kind n cj ci ∙ whole)
  join_edge false false one on_j = sym whole

and-false : (b : Bool) → (b && false) ≡ false
and-false true = refl
and-false false = refl

-- a debt that exists after t has joined another existed before
still_owed : (kind : Dep) (i j : Status) (of_i of_j : Bool) → (of_i ≡ true → i ≡ InProgress) → (test : Option Missing → Bool) → test None ≡ false
    → test (debt_in kind (if of_i then Joined else i) (if of_j then Joined else j)) ≡ true → test (debt_in kind i j) ≡ true
still_owed kind i j false false on test none e = e
still_owed kind i j true of_j on test none e = absurd (true≢false (sym e ∙ ap test (by_joined kind (if of_j then Joined else j)) ∙ none))
  where
    by_joined : (kind : Dep) (j : Status) → debt_in kind Joined j ≡ None
    by_joined Cd j = refl
    by_joined kind j = refl
still_owed kind i j false true on test none e = absurd (true≢false (sym e ∙ ap test (of_joined kind i) ∙ none))
  where
    of_joined : (kind : Dep) (i : Status) → debt_in kind i Joined ≡ None
    of_joined Scd i = ap (λ b. missing_if b Commit) (and-false (has_committed i))
    of_joined Ad i = ap (λ b. missing_if b Abort) (and-false (has_aborted i))
    of_joined Wd i = ap (λ b. missing_if b Abort) (and-false (has_aborted i))
    of_joined Ed i = ap (λ b. missing_if b Abort) (and-false (has_committed i))
    of_joined Cmd i = ap (λ b. missing_if b Commit) (and-false (has_aborted i))
    of_joined kind i = refl

-- if no edge passes a test, none passes a stronger one
any-fewer : (f g : Edge → Bool) → ((e : Edge) → f e ≡ true → g e ≡ true) → (es : List Edge) → list_any g es ≡ false → list_any f es ≡ false
any-fewer f g fewer [] none = refl
any-fewer f g fewer (e ∷ es) none =
    let parts = or_parts (g e) (list_any g es) none in
    (λ x. fewer_here (f e) refl x || any-fewer f g fewer es parts.1 x)
  where
    fewer_here : (b : Bool) → f e ≡ b → f e ≡ false
    fewer_here true is = absurd (true≢false (sym (fewer e is) ∙ (or_parts (g e) (list_any g es) none).0))
    fewer_here false is = is

-- if some edge passes a test, some edge passes a weaker one
any-more : (f g : Edge → Bool) → ((e : Edge) → f e ≡ true → g e ≡ true) → (es : List Edge) → list_any f es ≡ true → list_any g es ≡ true
any-more f g more es some = of (list_any g es) refl
  where
    of : (b : Bool) → list_any g es ≡ b → list_any g es ≡ true
    of true is = is
    of false is = absurd (true≢false (sym some ∙ any-fewer f g more es is))

-- so if no transaction owes both, none does after a join
calm_joined : (status : ℕ → Status) (es : List Edge) (t : ℕ) → status t ≡ InProgress → list_any (clashes_in status es) es ≡ false → meet_then status es t Joined ≡ false
calm_joined status es t at = any-fewer (clashes_in (with_status status t Joined) es) (clashes_in status es) fewer es
  where
    owed_before : (e : Edge) (test : Option Missing → Bool) → test None ≡ false → test (debt_of (with_status status t Joined) e) ≡ true → test (debt_of status e) ≡ true
    owed_before e test none = still_owed e.kind (status e.i.0) (status e.j.0) (e.i.0 == t) (e.j.0 == t) (λ same. ap status (eqb-true e.i.0 t same) ∙ at) test none

    fewer : (e : Edge) → clashes_in (with_status status t Joined) es e ≡ true → clashes_in status es e ≡ true
    fewer e both =
        let parts = and_parts (is_commit (debt_of (with_status status t Joined) e)) (list_any (owes_abort (with_status status t Joined) e.j.0) es) both in
        let commit = owed_before e is_commit refl parts.0 in
        let abort = any-more (owes_abort (with_status status t Joined) e.j.0) (owes_abort status e.j.0) fewer_aborts es parts.1 in
        λ x. commit x && abort x
      where
        fewer_aborts : (f : Edge) → owes_abort (with_status status t Joined) e.j.0 f ≡ true → owes_abort status e.j.0 f ≡ true
        fewer_aborts f is =
            let parts = and_parts (f.j.0 == e.j.0) (is_abort (debt_of (with_status status t Joined) f)) is in
            λ x. parts.0 x && owed_before f is_abort refl parts.1 x

-- a disjunction is the negation of neither
neither : (a b : Bool) → (a || b) ≡ not (not a && not b)
neither true b = refl
neither false true = refl
neither false false = refl

-- an event is refused exactly if the result is not legal, edge by edge and for clashing debts
pub record IsExactBy (later : ℕ → Course) (es : List Edge) (refused clash : Bool) (test : Edge → Bool) : Type 0 where
  pub refuses : refused ≡ not (is_legal_by later es)
  pub equivalent : map test es ≡ map (is_broken_by later) es
  pub clashes : clash ≡ list_any (clashes_by later es) es

-- an event of t, which only extends t's course, is refused exactly if it would break a formula or make debts clash
module _ (status : ℕ → Status) (courses later : ℕ → Course) (es : List Edge) (n t : ℕ)
    (shows : (u : ℕ) → status u ≡ course_status (courses u)) (orderly : (u : ℕ) → is_orderly (courses u) ≡ true) (within : (u : ℕ) → IsWithin n (courses u))
    (apart : list_all is_apart es ≡ true) (unbroken : list_any (is_broken_by courses) es ≡ false)
    (others : (u : ℕ) → (u ≡ t → ⊥) → later u ≡ courses u) (orderly_later : (u : ℕ) → is_orderly (later u) ≡ true) where
  -- the courses after the event
  moved : (g : Course → Course) → later t ≡ g (courses t) → (u : ℕ) → (if u == t then g (courses u) else courses u) ≡ later u
  moved g here u =
      elim (cases_eq u t) [
        | inl e ↦ ap (λ b. if b then g (courses u) else courses u) (eq-eqb u t e) ∙ ap (λ v. g (courses v)) e ∙ sym here ∙ sym (ap later e)
        | inr ne ↦ ap (λ b. if b then g (courses u) else courses u) (ne_eqb u t ne) ∙ sym (others u ne)
      ]

  -- the status of t before the event
  stands : (s : Status) → status t ≡ s → (u : ℕ) → (u == t) ≡ true → course_status (courses u) ≡ s
  stands s at u same = sym (shows u) ∙ ap status (eqb-true u t same) ∙ at

  -- the tests of edges, and then of debts, are those of legality
  exact : (blocks : ℕ → Edge → Bool) (s : Status) (refused clash : Bool) → refused ≡ (list_any (blocks t) es || clash) → clash ≡ meet_then status es t s
      → ((e : Edge) → is_apart e ≡ true → is_broken_by courses e ≡ false → blocks t e ≡ is_broken_by later e)
      → ((u : ℕ) → with_status status t s u ≡ course_status (later u))
      → IsExactBy later es refused clash (blocks t)
  exact blocks s refused clash tests meets each shows_later =
      let edges_equivalent = equivalent (blocks t) (is_broken_by later) (is_broken_by courses) each es apart unbroken in
      let debts_equivalent = meets ∙ clashes_equivalent (with_status status t s) later shows_later orderly_later es in
      record {
        refuses =
            tests
            ∙ (λ x. any_equivalent (blocks t) (is_broken_by later) es edges_equivalent x || debts_equivalent x)
            ∙ neither (list_any (is_broken_by later) es) (list_any (clashes_by later es) es);
        equivalent = edges_equivalent;
        clashes = debts_equivalent;
      }

  pub starts-exact : status t ≡ NotBegun → later t ≡ begun (n + 1) (courses t) → ((u : ℕ) → with_status status t InProgress u ≡ course_status (later u))
      → IsExactBy later es (is_some (start_refusal status es t)) (meet_then status es t InProgress) (refuses_start status t)
  starts-exact at here shows_later = exact (refuses_start status) InProgress (is_some (start_refusal status es t)) (meet_then status es t InProgress) (start_tests status es t) refl each shows_later
    where
      each : (e : Edge) → is_apart e ≡ true → is_broken_by courses e ≡ false → refuses_start status t e ≡ is_broken_by later e
      each e two whole =
          let at_i = shows e.i.0 in
          let new = moved (begun (n + 1)) here in
          (λ x. ((e.j.0 == t) && awaits_begin e.kind (at_i x)) || ((e.j.0 == t) && awaits_end e.kind (at_i x)) || ((e.j.0 == t) && awaits_commit e.kind (at_i x)) || ((e.j.0 == t) && awaits_abort e.kind (at_i x)))
          ∙ start_edge e.kind n (courses e.j.0) (courses e.i.0) (orderly e.j.0) (orderly e.i.0) (within e.j.0) (within e.i.0) whole (e.j.0 == t) (e.i.0 == t) (not_both e.j.0 e.i.0 t two) (stands NotBegun at e.j.0) (stands NotBegun at e.i.0)
          ∙ (λ x. is_broken e.kind (new e.j.0 x) (new e.i.0 x))

  pub commits-exact : status t ≡ InProgress → later t ≡ committed (n + 1) (courses t) → ((u : ℕ) → with_status status t Committed u ≡ course_status (later u))
      → IsExactBy later es (is_some (commit_refusal status es t)) (meet_then status es t Committed) (refuses_commit status t)
  commits-exact at here shows_later = exact (refuses_commit status) Committed (is_some (commit_refusal status es t)) (meet_then status es t Committed) (commit_tests status es t) refl each shows_later
    where
      each : (e : Edge) → is_apart e ≡ true → is_broken_by courses e ≡ false → refuses_commit status t e ≡ is_broken_by later e
      each e two whole =
          let at_i = shows e.i.0 in
          let at_j = shows e.j.0 in
          let new = moved (committed (n + 1)) here in
          (λ x. ((e.j.0 == t) && ends_after e.kind (at_i x)) || ((e.j.0 == t) && is_abort (debt_in e.kind (at_i x) (at_j x))) || ((e.i.0 == t) && committed_first e.kind (at_j x)) || ((e.i.0 == t) && began_first e.kind (at_j x)) || ((e.i.0 == t) && cannot_pay_commit e.kind (at_j x)))
          ∙ commit_edge e.kind n (courses e.j.0) (courses e.i.0) (orderly e.j.0) (orderly e.i.0) (within e.j.0) (within e.i.0) whole (e.j.0 == t) (e.i.0 == t) (not_both e.j.0 e.i.0 t two) (stands InProgress at e.j.0) (stands InProgress at e.i.0)
          ∙ (λ x. is_broken e.kind (new e.j.0 x) (new e.i.0 x))

  pub aborts-exact : status t ≡ InProgress → later t ≡ aborted (n + 1) (courses t) → ((u : ℕ) → with_status status t Aborted u ≡ course_status (later u))
      → IsExactBy later es (is_some (abort_refusal status es t)) (meet_then status es t Aborted) (refuses_abort status t)
  aborts-exact at here shows_later = exact (refuses_abort status) Aborted (is_some (abort_refusal status es t)) (meet_then status es t Aborted) (abort_tests status es t) refl each shows_later
    where
      each : (e : Edge) → is_apart e ≡ true → is_broken_by courses e ≡ false → refuses_abort status t e ≡ is_broken_by later e
      each e two whole =
          let at_i = shows e.i.0 in
          let at_j = shows e.j.0 in
          let new = moved (aborted (n + 1)) here in
          (λ x. ((e.j.0 == t) && ends_after e.kind (at_i x)) || ((e.j.0 == t) && is_commit (debt_in e.kind (at_i x) (at_j x))) || ((e.i.0 == t) && cannot_pay_abort e.kind (at_j x)))
          ∙ abort_edge e.kind n (courses e.j.0) (courses e.i.0) (orderly e.j.0) (orderly e.i.0) (within e.j.0) (within e.i.0) whole (e.j.0 == t) (e.i.0 == t) (not_both e.j.0 e.i.0 t two) (stands InProgress at e.j.0) (stands InProgress at e.i.0)
          ∙ (λ x. is_broken e.kind (new e.j.0 x) (new e.i.0 x))

  -- if no transaction owed both, none does after a join
  pub joins-exact : status t ≡ InProgress → later t ≡ joined (n + 1) (courses t) → ((u : ℕ) → with_status status t Joined u ≡ course_status (later u)) → list_any (clashes_by courses es) es ≡ false
      → IsExactBy later es (is_some (join_refusal status es t)) false (refuses_join status t)
  joins-exact at here shows_later calm = exact (refuses_join status) Joined (is_some (join_refusal status es t)) false tests (sym calm_then) each shows_later
    where
      calm_then : meet_then status es t Joined ≡ false
      calm_then = calm_joined status es t at (clashes_equivalent status courses shows orderly es ∙ calm)

      tests : is_some (join_refusal status es t) ≡ (list_any (refuses_join status t) es || false)
      tests = join_tests status es t ∙ sym (or-false (list_any (refuses_join status t) es))

      each : (e : Edge) → is_apart e ≡ true → is_broken_by courses e ≡ false → refuses_join status t e ≡ is_broken_by later e
      each e two whole =
          let at_i = shows e.i.0 in
          let at_j = shows e.j.0 in
          let new = moved (joined (n + 1)) here in
          (λ x. ((e.j.0 == t) && is_abort (debt_in e.kind (at_i x) (at_j x))) || ((e.j.0 == t) && is_commit (debt_in e.kind (at_i x) (at_j x))))
          ∙ join_edge e.kind n (courses e.j.0) (courses e.i.0) (orderly e.j.0) (orderly e.i.0) (within e.j.0) (within e.i.0) whole (e.j.0 == t) (e.i.0 == t) (not_both e.j.0 e.i.0 t two) (stands InProgress at e.j.0)
          ∙ (λ x. is_broken e.kind (new e.j.0 x) (new e.i.0 x))

owed_from-tie : (status : ℕ → Status) (courses : ℕ → Course) → ((u : ℕ) → status u ≡ course_status (courses u)) → ((u : ℕ) → is_orderly (courses u) ≡ true) → (n : ℕ) (es : List Edge)
    → owed_from status n es ≡ filter_map (λ e. option_map (owed_on e) (debt_by courses e.1)) (enumerate_from n es)
owed_from-tie status courses shows orderly n [] = refl
owed_from-tie status courses shows orderly n (e ∷ es) =
    λ x. cons_option ((ap (owed_at n e) (owes_equivalent status courses shows orderly e) ∙ mapped (debt_by courses e)) x) (owed_from-tie status courses shows orderly (n + 1) es x)
  where
    mapped : (o : Option Missing) → owed_at n e o ≡ option_map (owed_on (n, e)) o
    mapped None = refl
    mapped (Some missing) = refl

-- the debts by statuses are those by courses
pub owed-tie : (status : ℕ → Status) (courses : ℕ → Course) (es : List Edge) → ((u : ℕ) → status u ≡ course_status (courses u)) → ((u : ℕ) → is_orderly (courses u) ≡ true)
    → owed_in status es ≡ filter_map (λ e. option_map (owed_on e) (debt_by courses e.1)) (enumerate_from 1 es)
owed-tie status courses es shows orderly = owed_from-tie status courses shows orderly 1 es

-- an edge at the end that fails the test makes no difference
any-push : (test : Edge → Bool) (es : List Edge) (f : Edge) → test f ≡ false → list_any test (es ++ f ∷ []) ≡ list_any test es
any-push test es f e = list_any-append test es (f ∷ []) ∙ (λ x. list_any test es || (e x || false)) ∙ or-false (list_any test es)

-- a new edge whose formula is true has no debt, and leaves the edges legal
pub forms-legal : (courses : ℕ → Course) (es : List Edge) (f : Edge) → is_legal_by courses es ≡ true → is_false f.kind (courses f.j.0) (courses f.i.0) ≡ false → is_legal_by courses (es ++ f ∷ []) ≡ true
forms-legal courses es f legal holds =
    let whole : is_broken_by courses f ≡ false = ap (λ b. b && is_none (if b && is_none (end (courses f.j.0)) then payment f.kind else None)) holds in
    let none : debt_by courses f ≡ None = ap (λ b. if b && is_none (end (courses f.j.0)) then payment f.kind else None) holds in
    let calm = λ (e : Edge). ap (λ b. is_commit (debt_by courses e) && b) (any-push (owes_abort_by courses e.j.0) es f (ap (λ o. (f.j.0 == e.j.0) && is_abort o) none ∙ and-false (f.j.0 == e.j.0))) in
    let unclashed : clashes_by courses es f ≡ false = ap (λ o. is_commit o && list_any (owes_abort_by courses f.j.0) es) none in
    (λ x. not (any-push (is_broken_by courses) es f whole x) && not (list_any (λ e. calm e x) (es ++ f ∷ [])))
    ∙ (λ x. not (list_any (is_broken_by courses) es) && not (any-push (clashes_by courses es) es f unclashed x))
    ∙ legal

-- the same for several new edges
pub all-legal : (courses : ℕ → Course) (es more : List Edge) → is_legal_by courses es ≡ true → list_all (λ f. not (is_false f.kind (courses f.j.0) (courses f.i.0))) more ≡ true → is_legal_by courses (formed es more) ≡ true
all-legal courses es [] legal hold = legal
all-legal courses es (f ∷ more) legal hold =
    let parts = and_parts (not (is_false f.kind (courses f.j.0) (courses f.i.0))) (list_all (λ g. not (is_false g.kind (courses g.j.0) (courses g.i.0))) more) hold in
    all-legal courses (with_edge es f) more (of_known (is_among es f) (holds (is_false f.kind (courses f.j.0) (courses f.i.0)) parts.0)) parts.1
  where
    holds : (b : Bool) → not b ≡ true → b ≡ false
    holds true e = absurd (true≢false (sym e))
    holds false e = refl

    of_known : (b : Bool) → is_false f.kind (courses f.j.0) (courses f.i.0) ≡ false → is_legal_by courses (if b then es else es ++ f ∷ []) ≡ true
    of_known true held = legal
    of_known false held = forms-legal courses es f legal held

-- new edges that fail the tests and have no debt make no difference to a start

-- if the new edges fail the test, the result is as before
any-formed : (test : Edge → Bool) (es more : List Edge) → list_all (λ f. not (test f)) more ≡ true → list_any test (formed es more) ≡ list_any test es
any-formed test es [] none = refl
any-formed test es (f ∷ more) none =
    let parts = and_parts (not (test f)) (list_all (λ g. not (test g)) more) none in
    any-formed test (with_edge es f) more parts.1 ∙ of_known (is_among es f) (fails (test f) parts.0)
  where
    fails : (b : Bool) → not b ≡ true → b ≡ false
    fails true e = absurd (true≢false (sym e))
    fails false e = refl

    of_known : (b : Bool) → test f ≡ false → list_any test (if b then es else es ++ f ∷ []) ≡ list_any test es
    of_known true none = refl
    of_known false none = any-push test es f none

-- whatever passes one test passes a weaker one
all-weaker : (p q : Edge → Bool) → ((f : Edge) → p f ≡ true → q f ≡ true) → (more : List Edge) → list_all p more ≡ true → list_all q more ≡ true
all-weaker p q weaker [] all = refl
all-weaker p q weaker (f ∷ more) all =
    let parts = and_parts (p f) (list_all p more) all in
    λ x. weaker f parts.0 x && all-weaker p q weaker more parts.1 x

-- edges without debts cause no clash
clash-formed : (status : ℕ → Status) (es more : List Edge) → list_all (λ f. not (is_commit (debt_of status f)) && not (is_abort (debt_of status f))) more ≡ true
    → list_any (clashes_in status (formed es more)) (formed es more) ≡ list_any (clashes_in status es) es
clash-formed status es more calm =
    (λ x. list_any (λ e. is_commit (debt_of status e) && aborts_equivalent e.j.0 x) (formed es more))
    ∙ any-formed (clashes_in status es) es more (all-weaker _ _ no_commit more calm)
  where
    no_abort : (u : ℕ) (f : Edge) → (not (is_commit (debt_of status f)) && not (is_abort (debt_of status f))) ≡ true → not (owes_abort status u f) ≡ true
    no_abort u f e = of (f.j.0 == u) (is_abort (debt_of status f)) (and_parts (not (is_commit (debt_of status f))) (not (is_abort (debt_of status f))) e).1
      where
        of : (a b : Bool) → not b ≡ true → not (a && b) ≡ true
        of true b e = e
        of false b e = refl

    aborts_equivalent : (u : ℕ) → list_any (owes_abort status u) (formed es more) ≡ list_any (owes_abort status u) es
    aborts_equivalent u = any-formed (owes_abort status u) es more (all-weaker _ _ (no_abort u) more calm)

    no_commit : (f : Edge) → (not (is_commit (debt_of status f)) && not (is_abort (debt_of status f))) ≡ true → not (clashes_in status es f) ≡ true
    no_commit f e = of (is_commit (debt_of status f)) (list_any (owes_abort status f.j.0) es) (and_parts (not (is_commit (debt_of status f))) (not (is_abort (debt_of status f))) e).0
      where
        of : (a b : Bool) → not a ≡ true → not (a && b) ≡ true
        of true b e = absurd (true≢false (sym e))
        of false b e = refl

-- whether an edge makes no difference to the start of t
abbrev pub is_neutral : (ℕ → Status) → ℕ → Edge → Bool
is_neutral status t f = not (refuses_start status t f) && (not (is_commit (debt_of (with_status status t InProgress) f)) && not (is_abort (debt_of (with_status status t InProgress) f)))

pub start-formed : (status : ℕ → Status) (es more : List Edge) (t : ℕ) → list_all (is_neutral status t) more ≡ true → is_some (start_refusal status (formed es more) t) ≡ is_some (start_refusal status es t)
start-formed status es more t neutral =
    start_tests status (formed es more) t
    ∙ (λ x. any-formed (refuses_start status t) es more (all-weaker _ _ (λ f e. (and_parts (not (refuses_start status t f)) _ e).0) more neutral) x
    || clash-formed (with_status status t InProgress) es more (all-weaker _ _ (λ f e. (and_parts (not (refuses_start status t f)) _ e).1) more neutral) x)
    ∙ sym (start_tests status es t)

pub meet-formed : (status : ℕ → Status) (es more : List Edge) (t : ℕ) → list_all (is_neutral status t) more ≡ true → meet_then status (formed es more) t InProgress ≡ meet_then status es t InProgress
meet-formed status es more t neutral =
    clash-formed (with_status status t InProgress) es more (all-weaker _ _ (λ f e. (and_parts (not (refuses_start status t f)) _ e).1) more neutral)

-- an edge of no begin kind between two transactions in progress is neutral
pub neutral-edge : (status : ℕ → Status) (t : ℕ) (f : Edge) → is_begin_kind f.kind ≡ false → with_status status t InProgress f.i.0 ≡ InProgress → with_status status t InProgress f.j.0 ≡ InProgress → is_neutral status t f ≡ true
neutral-edge status t f other at_i at_j =
    let nothing : debt_of (with_status status t InProgress) f ≡ None = (λ x. debt_in f.kind (at_i x) (at_j x)) ∙ none_running f.kind in
    λ x. not (bars_none f.kind (f.j.0 == t) (status f.i.0) other x) && (not (is_commit (nothing x)) && not (is_abort (nothing x)))
  where
    none_running : (kind : Dep) → debt_in kind InProgress InProgress ≡ None
    none_running Cd = refl
    none_running kind = refl

    bars_none : (kind : Dep) (b : Bool) (i : Status) → is_begin_kind kind ≡ false → ((b && awaits_begin kind i) || (b && awaits_end kind i) || (b && awaits_commit kind i) || (b && awaits_abort kind i)) ≡ false
    bars_none Bd b i e = cc
    bars_none Sd b i e = cc
    bars_none Bcd b i e = cc
    bars_none Bad b i e = cc
    bars_none Wcd b i e = cc
    bars_none kind true i e = refl
    bars_none kind false i e = refl

-- whether the broken rule, if any, is on dependencies
is_on_dependencies : Option Refusal → Bool
is_on_dependencies None = true
is_on_dependencies (Some r) = is_dependency_rule r.rule

on_dependencies : (rule : Rule) (n : Option ℕ) → is_dependency_rule rule ≡ true → is_on_dependencies (broken_by rule n) ≡ true
unfolding is_on_dependencies
on_dependencies rule None e = refl
on_dependencies rule (Some n) e = e

either_on : (o p : Option Refusal) → is_on_dependencies o ≡ true → is_on_dependencies p ≡ true → is_on_dependencies (option_or o p) ≡ true
unfolding is_on_dependencies
either_on None p e d = d
either_on (Some r) p e d = e

rule_in : (o : Option Refusal) (r : Refusal) → is_on_dependencies o ≡ true → o ≡ Some r → is_dependency_rule r.rule ≡ true
unfolding is_on_dependencies
rule_in o r on is = sym (ap is_on_dependencies is) ∙ on

-- the rule that refuses a start, a commit, an abort or a join is on dependencies
pub start-rule : (status : ℕ → Status) (es : List Edge) (t : ℕ) (r : Refusal) → start_refusal status es t ≡ Some r → is_dependency_rule r.rule ≡ true
unfolding start_refusal begin_dep serial_dep begin_on_commit begin_on_abort clash
start-rule status es t r is =
    rule_in (start_refusal status es t) r
    (either_on _ _ (either_on _ _ (either_on _ _ (either_on _ _ (on_dependencies _ _ refl) (on_dependencies _ _ refl)) (on_dependencies _ _ refl)) (on_dependencies _ _ refl)) (on_dependencies _ _ refl))
    is

pub commit-rule : (status : ℕ → Status) (es : List Edge) (t : ℕ) (r : Refusal) → commit_refusal status es t ≡ Some r → is_dependency_rule r.rule ≡ true
unfolding commit_refusal termination_dep owing_abort commit_order weak_begin unpayable_commit clash
commit-rule status es t r is =
    rule_in (commit_refusal status es t) r
    (either_on _ _ (either_on _ _ (either_on _ _ (either_on _ _ (either_on _ _ (on_dependencies _ _ refl) (on_dependencies _ _ refl)) (on_dependencies _ _ refl)) (on_dependencies _ _ refl)) (on_dependencies _ _ refl)) (on_dependencies _ _ refl))
    is

pub abort-rule : (status : ℕ → Status) (es : List Edge) (t : ℕ) (r : Refusal) → abort_refusal status es t ≡ Some r → is_dependency_rule r.rule ≡ true
unfolding abort_refusal termination_dep owing_commit unpayable_abort clash
abort-rule status es t r is =
    rule_in (abort_refusal status es t) r
    (either_on _ _ (either_on _ _ (either_on _ _ (on_dependencies _ _ refl) (on_dependencies _ _ refl)) (on_dependencies _ _ refl)) (on_dependencies _ _ refl))
    is

pub join-rule : (status : ℕ → Status) (es : List Edge) (t : ℕ) (r : Refusal) → join_refusal status es t ≡ Some r → is_dependency_rule r.rule ≡ true
unfolding join_refusal owing_abort owing_commit
join-rule status es t r is =
    rule_in (join_refusal status es t) r
    (either_on _ _ (on_dependencies _ _ refl) (on_dependencies _ _ refl))
    is
