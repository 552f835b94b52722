-- Which transactions owe both a commit and an abort after one status changed.
use Rattle.std.proofs.Common.{◌≡◌, ℕ, ◌<◌, ◌≤◌, ◌-◌, length, get_or, arith, Bool, true, false, ◌&&◌, ◌||◌, ◌==◌, List, [], ◌∷◌, ◌++◌, map, filter, Option, Some, None, is_some, refl, sym, ap, ◌∙◌, inl, inr, if◌then◌else◌}
use Rattle.std.specs.List.{list_any}
use Rattle.std.proofs.lemmas.Bool.{eqb-true, true≢false, or_parts, or_cases, or_left, or_right, and_parts, and_from, or_from, false_from_ne_true, ne_eqb, eq-eqb}
use Rattle.std.proofs.lemmas.List.Folds.{list_any-append, list_any_at}
use Rattle.acta_table.specs.declared.dep.Edge.{Edge}
use Rattle.acta_table.specs.declared.dep.Missing.{Missing}
use Rattle.acta_table.specs.declared.dep.Missing.TheVariants.{Commit, Abort}
use Rattle.acta_table.specs.declared.answer.Status.{Status}
use Rattle.acta_table.specs.Dependencies.{is_commit, is_abort}
use Rattle.acta_table.specs.Numbered.{smallest}
use Rattle.acta_deps.specs.Statuses.{with_status}
use Rattle.acta_deps.specs.Debts.{debt_by, debt_of, owes_commit, owes_abort, owes_both, clashes_by, owing_both, clashing}
use Rattle.acta_deps.specs.inside.BlockKinds.{would_owe_both, other_of}
use Rattle.acta_table.proofs.Smallest.{least_from, least_is_smallest}
use Rattle.acta_deps.proofs.SmallestSame.{has, smallest_same, smallest_none}

-- Those whose edge passes

shown-by : (test : Edge → Bool) (u : ℕ) (e : Edge) (others : List Edge) (b : Bool) → has (map (λ (x : Edge). x.j.0) (if b then e ∷ filter test others else filter test others)) u ≡ (((e.j.0 == u) && b) || has (map (λ (x : Edge). x.j.0) (filter test others)) u)
shown-by test u e others true = ap (λ a. a || has (map (λ (x : Edge). x.j.0) (filter test others)) u) (passes (e.j.0 == u))
  where
    passes : (a : Bool) → a ≡ (a && true)
    passes true = refl
    passes false = refl
shown-by test u e others false = ap (λ a. a || has (map (λ (x : Edge). x.j.0) (filter test others)) u) (fails (e.j.0 == u))
  where
    fails : (a : Bool) → false ≡ (a && false)
    fails true = refl
    fails false = refl

shown : (test : Edge → Bool) (u : ℕ) (es : List Edge) → has (map (λ (e : Edge). e.j.0) (filter test es)) u ≡ list_any (λ e. (e.j.0 == u) && test e) es
shown test u [] = refl
shown test u (e ∷ es) = shown-by test u e es (test e) ∙ ap (λ b. ((e.j.0 == u) && test e) || b) (shown test u es)

spread : (c r a : Bool) → ((c && a) || (r && a)) ≡ ((c || r) && a)
spread true true true = refl
spread true true false = refl
spread true false true = refl
spread true false false = refl
spread false r a = refl

both-by : (s : ℕ → Status) (all : List Edge) (u : ℕ) (e : Edge) (rest b : Bool) → (e.j.0 == u) ≡ b
    → ((b && (is_commit (debt_of s e) && list_any (owes_abort s e.j.0) all)) || (rest && list_any (owes_abort s u) all)) ≡ (((b && is_commit (debt_of s e)) || rest) && list_any (owes_abort s u) all)
both-by s all u e rest true is =
    ap (λ v. (is_commit (debt_of s e) && list_any (owes_abort s v) all) || (rest && list_any (owes_abort s u) all)) (eqb-true e.j.0 u is)
    ∙ spread (is_commit (debt_of s e)) rest (list_any (owes_abort s u) all)
both-by s all u e rest false is = refl

both-in : (s : ℕ → Status) (all : List Edge) (u : ℕ) (es : List Edge) → list_any (λ e. (e.j.0 == u) && clashes_by s all e) es ≡ (list_any (owes_commit s u) es && list_any (owes_abort s u) all)
both-in s all u [] = refl
both-in s all u (e ∷ es) =
    ap (λ b. ((e.j.0 == u) && clashes_by s all e) || b) (both-in s all u es)
    ∙ both-by s all u e (list_any (owes_commit s u) es) (e.j.0 == u) refl

-- the clashing transactions are those that owe both
pub in_owing : (s : ℕ → Status) (es : List Edge) (u : ℕ) → has (owing_both s es) u ≡ owes_both s es u
in_owing s es u = shown (clashes_by s es) u es ∙ both-in s es u es

pub clear_from : (s : ℕ → Status) (es : List Edge) → clashing s es ≡ None → (u : ℕ) → owes_both s es u ≡ false
clear_from s es none u = sym (in_owing s es u) ∙ smallest_none (owing_both s es) none u

-- Tests of all edges

pub none_any : (test : Edge → Bool) (es : List Edge) → ((e : Edge) → test e ≡ false) → list_any test es ≡ false
none_any test [] h = refl
none_any test (e ∷ es) h = (λ i. h e i || none_any test es h i)

-- either r passes somewhere, or q passes wherever p does
pub any-unless : (p q r : Edge → Bool) → ((e : Edge) → r e ≡ false → p e ≡ true → q e ≡ true) → (es : List Edge) → list_any r es ≡ false → list_any p es ≡ true → list_any q es ≡ true
any-unless p q r step [] none h = h
any-unless p q r step (e ∷ es) none h =
    let parts = or_parts (r e) (list_any r es) none in
    elim (or_cases (p e) (list_any p es) h) [
      | inl here ↦ or_left (q e) (list_any q es) (step e parts.0 here)
      | inr later ↦ or_right (q e) (list_any q es) (any-unless p q r step es parts.1 later)
    ]

-- A changed status

pub same-debt : (s : ℕ → Status) (t : ℕ) (new : Status) (e : Edge) → (e.i.0 == t) ≡ false → (e.j.0 == t) ≡ false → debt_of (with_status s t new) e ≡ debt_of s e
same-debt s t new e i j = λ x. debt_by e.kind (if i x then new else s e.i.0) (if j x then new else s e.j.0)

-- a transaction that owes by this edge after the change, but not both by an edge on the changed one, did so before
before : (is : Option Missing → Bool) → is None ≡ false → (s : ℕ → Status) (t : ℕ) (new : Status) (es : List Edge) (u : ℕ) → (u == t) ≡ false → owes_both (with_status s t new) es u ≡ true
    → (e : Edge) → ((e.j.0 == u) && would_owe_both (with_status s t new) es t e) ≡ false → ((e.j.0 == u) && is (debt_of (with_status s t new) e)) ≡ true → ((e.j.0 == u) && is (debt_of s e)) ≡ true
before is nothing s t new es u other both e calm h = of (e.i.0 == t) refl
  where
    s' : ℕ → Status
    s' = with_status s t new

    on_u : (e.j.0 == u) ≡ true
    on_u = (and_parts (e.j.0 == u) (is (debt_of s' e)) h).0

    owed : is (debt_of s' e) ≡ true
    owed = (and_parts (e.j.0 == u) (is (debt_of s' e)) h).1

    same : e.j.0 ≡ u
    same = eqb-true e.j.0 u on_u

    some : (o : Option Missing) → is o ≡ true → is_some o ≡ true
    some None q = absurd (true≢false (sym q ∙ nothing))
    some (Some m) q = refl

    of : (on : Bool) → (e.i.0 == t) ≡ on → ((e.j.0 == u) && is (debt_of s e)) ≡ true
    of true on = absurd (true≢false (sym (and_from (e.j.0 == u) (would_owe_both s' es t e) on_u (and_from ((e.i.0 == t) && is_some (debt_of s' e)) (owes_both s' es e.j.0) (and_from (e.i.0 == t) (is_some (debt_of s' e)) on (some (debt_of s' e) owed)) (ap (owes_both s' es) same ∙ both))) ∙ calm))
    of false on = and_from (e.j.0 == u) (is (debt_of s e)) on_u (ap is (sym (same-debt s t new e on (ap (λ v. v == t) same ∙ other))) ∙ owed)

-- the changed transaction, if it owes both, and the dependents that owe both by an edge on it

abbrev pub all_owing_both : (ℕ → Status) → List Edge → ℕ → List ℕ
all_owing_both s es t = (if owes_both s es t then t ∷ [] else []) ++ map (λ (e : Edge). e.j.0) (filter (would_owe_both s es t) es)

first-by : (t u : ℕ) (b : Bool) → has (if b then t ∷ [] else []) u ≡ (b && (t == u))
first-by t u true = or-nothing (t == u)
  where
    or-nothing : (a : Bool) → (a || false) ≡ a
    or-nothing true = refl
    or-nothing false = refl
first-by t u false = refl

in-all_owing_both : (s : ℕ → Status) (es : List Edge) (t u : ℕ) → has (all_owing_both s es t) u ≡ ((owes_both s es t && (t == u)) || list_any (λ e. (e.j.0 == u) && would_owe_both s es t e) es)
in-all_owing_both s es t u =
    list_any-append (λ n. n == u) (if owes_both s es t then t ∷ [] else []) (map (λ (e : Edge). e.j.0) (filter (would_owe_both s es t) es))
    ∙ (λ i. first-by t u (owes_both s es t) i || shown (would_owe_both s es t) u es i)

all_owing_both-false : (s : ℕ → Status) (es : List Edge) (t u : ℕ) → owes_both s es u ≡ false → ((owes_both s es t && (t == u)) || list_any (λ e. (e.j.0 == u) && would_owe_both s es t e) es) ≡ false
all_owing_both-false s es t u none =
    or_from _ _
    (false_from_ne_true _ (λ h.
    let parts = and_parts (owes_both s es t) (t == u) h in
    true≢false (sym parts.0 ∙ ap (owes_both s es) (eqb-true t u parts.1) ∙ none)))
    (none_any (λ e. (e.j.0 == u) && would_owe_both s es t e) es (λ e. false_from_ne_true _ (λ h.
    let parts = and_parts (e.j.0 == u) (would_owe_both s es t e) h in
    let both = and_parts ((e.i.0 == t) && is_some (debt_of s e)) (owes_both s es e.j.0) parts.1 in
    true≢false (sym both.1 ∙ ap (owes_both s es) (eqb-true e.j.0 u parts.0) ∙ none))))

all_owing_both-true : (s : ℕ → Status) (t : ℕ) (new : Status) (es : List Edge) (u : ℕ) → owes_both s es u ≡ false → owes_both (with_status s t new) es u ≡ true
    → (here : Bool) → (t == u) ≡ here → (any : Bool) → list_any (λ e. (e.j.0 == u) && would_owe_both (with_status s t new) es t e) es ≡ any
    → ((owes_both (with_status s t new) es t && (t == u)) || list_any (λ e. (e.j.0 == u) && would_owe_both (with_status s t new) es t e) es) ≡ true
all_owing_both-true s t new es u clear both true here any is =
    or_left _ _ (and_from (owes_both (with_status s t new) es t) (t == u) (ap (owes_both (with_status s t new) es) (eqb-true t u here) ∙ both) here)
all_owing_both-true s t new es u clear both false here true is = or_right _ _ is
all_owing_both-true s t new es u clear both false here false is =
    let s' : ℕ → Status = with_status s t new in
    let other : (u == t) ≡ false = ne_eqb u t (λ e. true≢false (sym (eq-eqb t u (sym e)) ∙ here)) in
    let parts = and_parts (list_any (owes_commit s' u) es) (list_any (owes_abort s' u) es) both in
    let commit : list_any (owes_commit s u) es ≡ true = any-unless (owes_commit s' u) (owes_commit s u) (λ e. (e.j.0 == u) && would_owe_both s' es t e) (before is_commit refl s t new es u other both) es is parts.0 in
    let abort : list_any (owes_abort s u) es ≡ true = any-unless (owes_abort s' u) (owes_abort s u) (λ e. (e.j.0 == u) && would_owe_both s' es t e) (before is_abort refl s t new es u other both) es is parts.1 in
    absurd (true≢false (sym (and_from (list_any (owes_commit s u) es) (list_any (owes_abort s u) es) commit abort) ∙ clear))

all_owing_both-by : (s : ℕ → Status) (t : ℕ) (new : Status) (es : List Edge) (u : ℕ) → owes_both s es u ≡ false → (b : Bool) → owes_both (with_status s t new) es u ≡ b → has (all_owing_both (with_status s t new) es t) u ≡ b
all_owing_both-by s t new es u clear true is = in-all_owing_both (with_status s t new) es t u ∙ all_owing_both-true s t new es u clear is (t == u) refl (list_any (λ e. (e.j.0 == u) && would_owe_both (with_status s t new) es t e) es) refl
all_owing_both-by s t new es u clear false is = in-all_owing_both (with_status s t new) es t u ∙ all_owing_both-false (with_status s t new) es t u is

first-least : (t : ℕ) (ns : List ℕ) (b : Bool) → least_from (if b then Some t else None) ns ≡ smallest ((if b then t ∷ [] else []) ++ ns)
first-least t ns true = least_is_smallest (t ∷ ns)
first-least t ns false = least_is_smallest ns

-- if no transaction owed both, the smallest that does after the change is the smallest of those
pub clashing_is_owing_both : (s : ℕ → Status) (t : ℕ) (new : Status) (es : List Edge) → ((u : ℕ) → owes_both s es u ≡ false)
    → least_from (if owes_both (with_status s t new) es t then Some t else None) (map (λ (e : Edge). e.j.0) (filter (would_owe_both (with_status s t new) es t) es)) ≡ clashing (with_status s t new) es
clashing_is_owing_both s t new es clear =
    let s' : ℕ → Status = with_status s t new in
    first-least t (map (λ (e : Edge). e.j.0) (filter (would_owe_both s' es t) es)) (owes_both s' es t)
    ∙ smallest_same (all_owing_both s' es t) (owing_both s' es) (λ u. all_owing_both-by s t new es u (clear u) (owes_both s' es u) refl ∙ sym (in_owing s' es u))

-- a transaction that owes one event by the edge owes both exactly if it owes the other

other-by : (x : Bool) (s : ℕ → Status) (es : List Edge) (e : Edge) (o : Option Missing) → debt_of s e ≡ o → (o ≡ Some Commit → list_any (owes_commit s e.j.0) es ≡ true) → (o ≡ Some Abort → list_any (owes_abort s e.j.0) es ≡ true) → ((x && is_some o) && owes_both s es e.j.0) ≡ (x && other_of o (list_any (owes_commit s e.j.0) es) (list_any (owes_abort s e.j.0) es))
other-by true s es e None is commit abort = refl
other-by true s es e (Some Commit) is commit abort = ap (λ b. b && list_any (owes_abort s e.j.0) es) (commit refl)
other-by true s es e (Some Abort) is commit abort = ap (λ b. list_any (owes_commit s e.j.0) es && b) (abort refl) ∙ and-true (list_any (owes_commit s e.j.0) es)
  where
    and-true : (a : Bool) → (a && true) ≡ a
    and-true true = refl
    and-true false = refl
other-by false s es e o is commit abort = refl

pub would_owe_both_by : (s : ℕ → Status) (es : List Edge) (t place : ℕ) (e : Edge) → 0 < place → place ≤ length es → ((d : Edge) → e ≡ get_or es (place - 1) d) → would_owe_both s es t e ≡ ((e.i.0 == t) && other_of (debt_of s e) (list_any (owes_commit s e.j.0) es) (list_any (owes_abort s e.j.0) es))
would_owe_both_by s es t place e some within read =
    other-by (e.i.0 == t) s es e (debt_of s e) refl
    (λ is. list_any_at (owes_commit s e.j.0) es (place - 1) e (omega arith) (ap (owes_commit s e.j.0) (sym (read e)) ∙ and_from (e.j.0 == e.j.0) (is_commit (debt_of s e)) (eq-eqb e.j.0 e.j.0 refl) (ap is_commit is)))
    (λ is. list_any_at (owes_abort s e.j.0) es (place - 1) e (omega arith) (ap (owes_abort s e.j.0) (sym (read e)) ∙ and_from (e.j.0 == e.j.0) (is_abort (debt_of s e)) (eq-eqb e.j.0 e.j.0 refl) (ap is_abort is)))
