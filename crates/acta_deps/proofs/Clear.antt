-- Invariant: no transaction owes both a commit and an abort.
use Rattle.std.proofs.Common.{◌≡◌, ℕ, zero, suc, get_or, arith, Bool, true, false, ◌&&◌, ◌==◌, List, [], ◌∷◌, ◌++◌, take, drop, Option, Some, None, refl, sym, ap, ◌∙◌, inl, inr, ◌⊎◌, if◌then◌else◌}
use Rattle.std.specs.List.{list_any, All}
use Rattle.std.specs.Option.{option_or}
use Rattle.std.proofs.lemmas.Bool.{true≢false, and_parts, and_from, and_right, or_left, false_from_ne_true}
use Rattle.std.proofs.lemmas.List.{take-append-drop}
use Rattle.std.proofs.lemmas.List.Folds.{list_any-append}
use Rattle.acta_table.specs.declared.dep.Dep.{Dep}
use Rattle.acta_table.specs.declared.dep.Dep.TheVariants.{Cd, Scd, Ad, Wd, Ed, Cmd}
use Rattle.acta_table.specs.declared.dep.Edge.{Edge}
use Rattle.acta_table.specs.declared.dep.Missing.{Missing}
use Rattle.acta_table.specs.declared.dep.Missing.TheVariants.{Commit, Abort}
use Rattle.acta_table.specs.declared.answer.Rule.{Rule}
use Rattle.acta_table.specs.declared.answer.Rule.TheVariants.{Clash}
use Rattle.acta_table.specs.declared.answer.Status.{Status}
use Rattle.acta_table.specs.declared.answer.Status.TheVariants.{NotBegun, InProgress, Committed, Aborted, Joined}
use Rattle.acta_table.specs.Dependencies.{is_commit, is_abort, is_begin_kind}
use Rattle.acta_table.specs.Edges.{is_among, with_edge, formed}
use Rattle.acta_table.specs.Refusals.{broken_by}
use Rattle.acta_deps.specs.Statuses.{with_status, has_committed, has_aborted, has_ended, may_end, is_in_progress}
use Rattle.acta_deps.specs.Debts.{missing_if, debt_by, debt_of, owes_commit, owes_abort, owes_both, clashing}
use Rattle.acta_deps.specs.Dependencies.{start_refusal, commit_refusal, abort_refusal, clash}
use Rattle.acta_deps.proofs.Walks.{any_drops}
use Rattle.acta_deps.proofs.Clashes.{clear_from, any-unless, none_any, same-debt}

last_none : {X : Type 0} (o p : Option X) → option_or o p ≡ None → p ≡ None
last_none None p h = h
last_none (Some x) p h = cc

unbroken : (rule : Rule) (o : Option ℕ) → broken_by rule o ≡ None → o ≡ None
unbroken rule None h = refl
unbroken rule (Some n) h = cc

no_clash : (s : ℕ → Status) (es : List Edge) (t : ℕ) (new : Status) → clash s es t new ≡ None → (u : ℕ) → owes_both (with_status s t new) es u ≡ false
unfolding clash
no_clash s es t new h = clear_from (with_status s t new) es (unbroken Clash (clashing (with_status s t new) es) h)

pub start_clear : (s : ℕ → Status) (es : List Edge) (t : ℕ) → start_refusal s es t ≡ None → (u : ℕ) → owes_both (with_status s t InProgress) es u ≡ false
unfolding start_refusal
start_clear s es t h = no_clash s es t InProgress (last_none _ (clash s es t InProgress) h)

pub commit_clear : (s : ℕ → Status) (es : List Edge) (t : ℕ) → commit_refusal s es t ≡ None → (u : ℕ) → owes_both (with_status s t Committed) es u ≡ false
unfolding commit_refusal
commit_clear s es t h = no_clash s es t Committed (last_none _ (clash s es t Committed) h)

pub abort_clear : (s : ℕ → Status) (es : List Edge) (t : ℕ) → abort_refusal s es t ≡ None → (u : ℕ) → owes_both (with_status s t Aborted) es u ≡ false
unfolding abort_refusal
abort_clear s es t h = no_clash s es t Aborted (last_none _ (clash s es t Aborted) h)

-- One that joins another

by_joined : (kind : Dep) (j : Status) → debt_by kind Joined j ≡ None
by_joined Scd j = refl
by_joined Ad j = refl
by_joined Wd j = refl
by_joined Cmd j = refl
by_joined Ed j = refl
by_joined _ j = refl

of_joined : (kind : Dep) (i : Status) → debt_by kind i Joined ≡ None
of_joined Scd i = ap (λ b. missing_if b Commit) (and_right (has_committed i) false refl)
of_joined Ad i = ap (λ b. missing_if b Abort) (and_right (has_aborted i) false refl)
of_joined Wd i = ap (λ b. missing_if b Abort) (and_right (has_aborted i) false refl)
of_joined Cmd i = ap (λ b. missing_if b Commit) (and_right (has_aborted i) false refl)
of_joined Ed i = ap (λ b. missing_if b Abort) (and_right (has_committed i) false refl)
of_joined _ i = refl

joined-by : (s : ℕ → Status) (t : ℕ) (e : Edge) (i j : Bool) → (e.i.0 == t) ≡ i → (e.j.0 == t) ≡ j → (debt_of (with_status s t Joined) e ≡ None) ⊎ (debt_of (with_status s t Joined) e ≡ debt_of s e)
joined-by s t e true j on at = inl (ap (λ b. debt_by e.kind (if b then Joined else s e.i.0) (with_status s t Joined e.j.0)) on ∙ by_joined e.kind (with_status s t Joined e.j.0))
joined-by s t e false true on at = inl (ap (λ b. debt_by e.kind (with_status s t Joined e.i.0) (if b then Joined else s e.j.0)) at ∙ of_joined e.kind (with_status s t Joined e.i.0))
joined-by s t e false false on at = inr (same-debt s t Joined e on at)

kept : (is : Option Missing → Bool) → is None ≡ false → (s : ℕ → Status) (t : ℕ) (e : Edge) → is (debt_of (with_status s t Joined) e) ≡ true → is (debt_of s e) ≡ true
kept is nothing s t e h =
    elim (joined-by s t e (e.i.0 == t) (e.j.0 == t) refl refl) [
      | inl none ↦ absurd (true≢false (sym h ∙ ap is none ∙ nothing))
      | inr same ↦ ap is (sym same) ∙ h
    ]

kept_of : (is : Option Missing → Bool) → is None ≡ false → (s : ℕ → Status) (t u : ℕ) (e : Edge) → ((e.j.0 == u) && is (debt_of (with_status s t Joined) e)) ≡ true → ((e.j.0 == u) && is (debt_of s e)) ≡ true
kept_of is nothing s t u e h =
    let parts = and_parts (e.j.0 == u) (is (debt_of (with_status s t Joined) e)) h in
    and_from (e.j.0 == u) (is (debt_of s e)) parts.0 (kept is nothing s t e parts.1)

pub join_clear : (s : ℕ → Status) (es : List Edge) (t : ℕ) → ((u : ℕ) → owes_both s es u ≡ false) → (u : ℕ) → owes_both (with_status s t Joined) es u ≡ false
join_clear s es t clear u =
    let s' : ℕ → Status = with_status s t Joined in
    false_from_ne_true (owes_both s' es u) (λ h.
    let parts = and_parts (list_any (owes_commit s' u) es) (list_any (owes_abort s' u) es) h in
    let calm : list_any (λ (e : Edge). false) es ≡ false = none_any (λ e. false) es (λ e. refl) in
    let commit : list_any (owes_commit s u) es ≡ true = any-unless (owes_commit s' u) (owes_commit s u) (λ e. false) (λ e _ q. kept_of is_commit refl s t u e q) es calm parts.0 in
    let abort : list_any (owes_abort s u) es ≡ true = any-unless (owes_abort s' u) (owes_abort s u) (λ e. false) (λ e _ q. kept_of is_abort refl s t u e q) es calm parts.1 in
    true≢false (sym (and_from _ _ commit abort) ∙ clear u))

-- Edges by which nothing is owed

-- a transaction that has not ended has neither committed nor aborted
pub undecided : (i : Status) → has_ended i ≡ false → (has_committed i ≡ false) × (has_aborted i ≡ false)
undecided NotBegun h = (refl, refl)
undecided InProgress h = (refl, refl)
undecided Committed h = absurd (true≢false h)
undecided Aborted h = absurd (true≢false h)
undecided Joined h = absurd (true≢false h)

-- an edge has no debt while its i has neither committed nor aborted
pub not_ended : (kind : Dep) (i j : Status) → (has_committed i ≡ false) × (has_aborted i ≡ false) → debt_by kind i j ≡ None
not_ended Scd i j h = ap (λ b. missing_if (b && may_end j) Commit) h.0
not_ended Ad i j h = ap (λ b. missing_if (b && may_end j) Abort) h.1
not_ended Wd i j h = ap (λ b. missing_if (b && may_end j) Abort) h.1
not_ended Cmd i j h = ap (λ b. missing_if (b && may_end j) Commit) h.1
not_ended Ed i j h = ap (λ b. missing_if (b && is_in_progress j) Abort) h.0
not_ended _ i j h = refl

-- nor has an edge of a kind that limits when j begins
pub of_begin : (kind : Dep) (i j : Status) → is_begin_kind kind ≡ true → debt_by kind i j ≡ None
of_begin Cd i j h = refl
of_begin Scd i j h = absurd (true≢false (sym h))
of_begin Ad i j h = absurd (true≢false (sym h))
of_begin Wd i j h = absurd (true≢false (sym h))
of_begin Cmd i j h = absurd (true≢false (sym h))
of_begin Ed i j h = absurd (true≢false (sym h))
of_begin _ i j h = refl

any-with-by : (test : Edge → Bool) (es : List Edge) (e : Edge) (known : Bool) → test e ≡ false → list_any test (if known then es else es ++ e ∷ []) ≡ list_any test es
any-with-by test es e true fails = refl
any-with-by test es e false fails = any_drops test es e fails

any_formed : (test : Edge → Bool) (es more : List Edge) → All (λ e. test e ≡ false) more → list_any test (formed es more) ≡ list_any test es
any_formed test es [] h = refl
any_formed test es (e ∷ more) h =
    let rest : All (λ x. test x ≡ false) more = λ k d l. h (suc k) d (omega arith) in
    let here : test e ≡ false = h zero e (omega arith) in
    any_formed test (with_edge es e) more rest ∙ any-with-by test es e (is_among es e) here

none-owed : (is : Option Missing → Bool) → is None ≡ false → (s : ℕ → Status) (u : ℕ) (more : List Edge) → All (λ e. debt_of s e ≡ None) more → All (λ e. ((e.j.0 == u) && is (debt_of s e)) ≡ false) more
none-owed is nothing s u more h k d l =
    let e : Edge = get_or more k d in
    and_right (e.j.0 == u) (is (debt_of s e)) (ap is (h k d l) ∙ nothing)

pub form_clear : (s : ℕ → Status) (es more : List Edge) → All (λ e. debt_of s e ≡ None) more → ((u : ℕ) → owes_both s es u ≡ false) → (u : ℕ) → owes_both s (formed es more) u ≡ false
form_clear s es more times clear u =
    (λ i. any_formed (owes_commit s u) es more (none-owed is_commit refl s u more times) i && any_formed (owes_abort s u) es more (none-owed is_abort refl s u more times) i)
    ∙ clear u

-- Edges that are removed again

any-front : (test : Edge → Bool) (es : List Edge) (n : ℕ) → list_any test (take n es) ≡ true → list_any test es ≡ true
any-front test es n h =
    ap (λ (xs : List Edge). list_any test xs) (sym (take-append-drop n es))
    ∙ list_any-append test (take n es) (drop n es)
    ∙ or_left (list_any test (take n es)) (list_any test (drop n es)) h

pub take_clear : (s : ℕ → Status) (es : List Edge) (n : ℕ) → ((u : ℕ) → owes_both s es u ≡ false) → (u : ℕ) → owes_both s (take n es) u ≡ false
take_clear s es n clear u =
    false_from_ne_true (owes_both s (take n es) u) (λ h.
    let parts = and_parts (list_any (owes_commit s u) (take n es)) (list_any (owes_abort s u) (take n es)) h in
    true≢false (sym (and_from _ _ (any-front (owes_commit s u) es n parts.0) (any-front (owes_abort s u) es n parts.1)) ∙ clear u))
