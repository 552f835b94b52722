-- The edge or transaction that a refusal names exists.
use Rattle.std.proofs.Common.{◌≡◌, ◌≢◌, ℕ, zero, suc, ◌+◌, ◌≤◌, Bool, true, false, ◌||◌, cond, List, [], ◌∷◌, slice_get, Option, Some, None, refl, sym, ap, ◌∙◌, subst, arith}
use Rattle.std.specs.List.{list_any, position_from}
use Rattle.std.specs.Prelude.{option_map, IfSome}
use Rattle.std.specs.Option.{option_or}
use Rattle.std.proofs.lemmas.Bool.{and_parts, true≢false}
use Rattle.acta_table.specs.declared.dep.Edge.{Edge}
use Rattle.acta_table.specs.declared.dep.Missing.{Missing}
use Rattle.acta_table.specs.declared.dep.Missing.TheVariants.{Commit as a_commit, Abort as an_abort}
use Rattle.acta_table.specs.declared.answer.Refusal.{Refusal}
use Rattle.acta_table.specs.declared.answer.Rule.{Rule}
use Rattle.acta_table.specs.declared.answer.Rule.TheVariants.{BeginDep, SerialDep, BeginOnCommit, BeginOnAbort, TerminationDep, OwesAbort, OwesCommit, CommitOrder, WeakBegin, Unpayable, Clash}
use Rattle.acta_table.specs.declared.answer.Status.{Status}
use Rattle.acta_table.specs.declared.answer.Status.TheVariants.{NotBegun, InProgress, Committed, Aborted, Joined}
use Rattle.acta_table.specs.Numbered.{item_at, first_number}
use Rattle.acta_table.specs.Refusals.{broken_by}
use Rattle.acta_deps.specs.Debts.{owing_both, clashing, owes_commit, owes_abort}
use Rattle.acta_deps.specs.Dependencies.{depends, is_awaited, awaits_begin, awaits_end, awaits_commit, awaits_abort, ends_after, committed_first, began_first, cannot_pay_commit, cannot_pay_abort, begin_dep, serial_dep, begin_on_commit, begin_on_abort, termination_dep, owing_abort, owing_commit, commit_order, weak_begin, unpayable_commit, unpayable_abort, clash, start_refusal, commit_refusal, abort_refusal, join_refusal, refusal_to}
use Rattle.acta_deps.specs.Statuses.{with_status}
use Rattle.acta_deps.specs.inside.BlockKinds.{owes}
use Rattle.acta_deps.specs.declared.block.NumberedEdge.{NumberedEdge}
use Rattle.acta_deps.proofs.Clashes.{in_owing}
use Rattle.acta_deps.proofs.Parties.{owes_party}
use Rattle.acta_deps.proofs.SmallestSame.{least-in}
use Rattle.acta_table.proofs.FirstNumbers.{some-is, none-some, first-there}

-- The first that passes

none_step : (a b : Bool) (n : ℕ) (o : Option ℕ) → (o ≡ None → b ≡ false) → cond a (Some n) o ≡ None → (a || b) ≡ false
none_step true b n o later e = absurd (none-some (sym e))
none_step false b n o later e = later e

none_from : (test : Edge → Bool) (k : ℕ) (es : List Edge) → position_from test k es ≡ None → list_any test es ≡ false
none_from test k [] e = refl
none_from test k (x ∷ es) e = none_step (test x) (list_any test es) k (position_from test (k + 1) es) (none_from test (k + 1) es) e

-- if a transaction owes both events, there is an edge by which it owes each
pub owing-first : (s : ℕ → Status) (es : List Edge) (n : ℕ) (missing : Missing) → clashing s es ≡ Some n → first_number (owes missing s n) es ≡ None → ⊥
owing-first s es n missing is none =
    let both = and_parts (list_any (owes_commit s n) es) (list_any (owes_abort s n) es) (sym (in_owing s es n) ∙ least-in (owing_both s es) n is) in
    true≢false (sym (of missing both.0 both.1) ∙ none_from (owes missing s n) 1 es none)
  where
    of : (m : Missing) → list_any (owes_commit s n) es ≡ true → list_any (owes_abort s n) es ≡ true → list_any (owes m s n) es ≡ true
    of a_commit commit abort = commit
    of an_abort commit abort = abort

-- What a refusal names

-- a clash names the smallest transaction that would owe both, and any other rule an edge that exists
abbrev IsReported : (ℕ → Status) → List Edge → Refusal → Type 0
IsReported after es r =
    (r.rule ≡ Clash → (n : ℕ) × (r.by ≡ Some n) × (clashing after es ≡ Some n))
    × (r.rule ≢ Clash → (n : ℕ) × (r.by ≡ Some n) × (item_at es n ≡ None → ⊥))

abbrev AreReported : (ℕ → Status) → List Edge → Option Refusal → Type 0
AreReported after es o = (r : Refusal) → o ≡ Some r → IsReported after es r

none-reported : (after : ℕ → Status) (es : List Edge) → AreReported after es None
none-reported after es r e = absurd (none-some e)

or-reported : (after : ℕ → Status) (es : List Edge) (a b : Option Refusal) → AreReported after es a → AreReported after es b → AreReported after es (option_or a b)
or-reported after es None b first then r e = then r e
or-reported after es (Some x) b first then r e = first r e

edge-reported-by : (after : ℕ → Status) (es : List Edge) (rule : Rule) (test : Edge → Bool) → rule ≢ Clash → (o : Option ℕ) → first_number test es ≡ o → AreReported after es (broken_by rule o)
edge-reported-by after es rule test other None is r e = absurd (none-some e)
edge-reported-by after es rule test other (Some n) is r e =
    let same : record { rule = rule; by = Some n } ≡ r = some-is e in (
      λ named. absurd (other (ap (λ (q : Refusal). q.rule) same ∙ named)),
      λ _. (n, sym (ap (λ (q : Refusal). q.by) same), first-there test es n is),
    )

edge-reported : (after : ℕ → Status) (es : List Edge) (rule : Rule) (test : Edge → Bool) → rule ≢ Clash → AreReported after es (broken_by rule (first_number test es))
edge-reported after es rule test other = edge-reported-by after es rule test other (first_number test es) refl

clash-reported-by : (after : ℕ → Status) (es : List Edge) (o : Option ℕ) → clashing after es ≡ o → AreReported after es (broken_by Clash o)
clash-reported-by after es None is r e = absurd (none-some e)
clash-reported-by after es (Some n) is r e =
    let same : record { rule = Clash; by = Some n } ≡ r = some-is e in (
      λ _. (n, sym (ap (λ (q : Refusal). q.by) same), is),
      λ other. absurd (other (sym (ap (λ (q : Refusal). q.rule) same))),
    )

clash-reported : (s : ℕ → Status) (es : List Edge) (t : ℕ) (st : Status) → AreReported (with_status s t st) es (clash s es t st)
unfolding clash
clash-reported s es t st = clash-reported-by (with_status s t st) es (clashing (with_status s t st) es) refl

start-reported : (s : ℕ → Status) (es : List Edge) (t : ℕ) → AreReported (with_status s t InProgress) es (start_refusal s es t)
unfolding start_refusal begin_dep serial_dep begin_on_commit begin_on_abort
start-reported s es t =
    let after : ℕ → Status = with_status s t InProgress in
    or-reported after es _ _ (or-reported after es _ _ (or-reported after es _ _ (or-reported after es _ _ (or-reported after es _ _ (none-reported after es)
    (edge-reported after es BeginDep (depends awaits_begin s t) (λ e. cc)))
    (edge-reported after es SerialDep (depends awaits_end s t) (λ e. cc)))
    (edge-reported after es BeginOnCommit (depends awaits_commit s t) (λ e. cc)))
    (edge-reported after es BeginOnAbort (depends awaits_abort s t) (λ e. cc)))
    (clash-reported s es t InProgress)

commit-reported : (s : ℕ → Status) (es : List Edge) (t : ℕ) → AreReported (with_status s t Committed) es (commit_refusal s es t)
unfolding commit_refusal termination_dep owing_abort commit_order weak_begin unpayable_commit
commit-reported s es t =
    let after : ℕ → Status = with_status s t Committed in
    or-reported after es _ _ (or-reported after es _ _ (or-reported after es _ _ (or-reported after es _ _ (or-reported after es _ _ (or-reported after es _ _ (none-reported after es)
    (edge-reported after es TerminationDep (depends ends_after s t) (λ e. cc)))
    (edge-reported after es OwesAbort (owes_abort s t) (λ e. cc)))
    (edge-reported after es CommitOrder (is_awaited committed_first s t) (λ e. cc)))
    (edge-reported after es WeakBegin (is_awaited began_first s t) (λ e. cc)))
    (edge-reported after es Unpayable (is_awaited cannot_pay_commit s t) (λ e. cc)))
    (clash-reported s es t Committed)

abort-reported : (s : ℕ → Status) (es : List Edge) (t : ℕ) → AreReported (with_status s t Aborted) es (abort_refusal s es t)
unfolding abort_refusal termination_dep owing_commit unpayable_abort
abort-reported s es t =
    let after : ℕ → Status = with_status s t Aborted in
    or-reported after es _ _ (or-reported after es _ _ (or-reported after es _ _ (or-reported after es _ _ (none-reported after es)
    (edge-reported after es TerminationDep (depends ends_after s t) (λ e. cc)))
    (edge-reported after es OwesCommit (owes_commit s t) (λ e. cc)))
    (edge-reported after es Unpayable (is_awaited cannot_pay_abort s t) (λ e. cc)))
    (clash-reported s es t Aborted)

join-reported : (s : ℕ → Status) (es : List Edge) (t : ℕ) → AreReported (with_status s t Joined) es (join_refusal s es t)
unfolding join_refusal owing_abort owing_commit
join-reported s es t =
    let after : ℕ → Status = with_status s t Joined in
    or-reported after es _ _ (or-reported after es _ _ (none-reported after es)
    (edge-reported after es OwesAbort (owes_abort s t) (λ e. cc)))
    (edge-reported after es OwesCommit (owes_commit s t) (λ e. cc))

-- the number named by a refused change of status exists
pub refusal-reported : (s : ℕ → Status) (es : List Edge) (t : ℕ) (st : Status) (r : Refusal) → refusal_to s es t st ≡ Some r → IsReported (with_status s t st) es r
refusal-reported s es t NotBegun r e = absurd (none-some e)
refusal-reported s es t InProgress r e = start-reported s es t r e
refusal-reported s es t Committed r e = commit-reported s es t r e
refusal-reported s es t Aborted r e = abort-reported s es t r e
refusal-reported s es t Joined r e = join-reported s es t r e

low-by : (a : Bool) (k n : ℕ) (o : Option ℕ) → (o ≡ Some n → k + 1 ≤ n) → cond a (Some k) o ≡ Some n → k ≤ n
low-by true k n o later e = let same : k ≡ n = some-is e in omega arith
low-by false k n o later e = let least = later e in omega arith

low : {X : Type 0} (test : X → Bool) (k n : ℕ) (xs : List X) → position_from test k xs ≡ Some n → k ≤ n
low test k n [] e = absurd (none-some e)
low test k n (x ∷ xs) e = low-by (test x) k n (position_from test (k + 1) xs) (low test (k + 1) n xs) e

passes-step : {X : Type 0} (test : X → Bool) (k n m : ℕ) (y : X) (ys : List X) (x : X) → ((p : ℕ) → position_from test (k + 1) ys ≡ Some n → n ≡ k + 1 + p → slice_get ys p ≡ Some x → test x ≡ true) → (b : Bool) → test y ≡ b → cond b (Some k) (position_from test (k + 1) ys) ≡ Some n → n ≡ k + m → slice_get (y ∷ ys) m ≡ Some x → test x ≡ true
passes-step test k n zero y ys x later true here e at is = subst (λ z. test z ≡ true) (some-is is) here
passes-step test k n (suc m) y ys x later true here e at is = let same : k ≡ n = some-is e in absurd (omega arith)
passes-step test k n zero y ys x later false here e at is = let least : k + 1 ≤ n = low test (k + 1) n ys e in absurd (omega arith)
passes-step test k n (suc m) y ys x later false here e at is = later m e (omega arith) is

passes-from : {X : Type 0} (test : X → Bool) (k n m : ℕ) (xs : List X) (x : X) → position_from test k xs ≡ Some n → n ≡ k + m → slice_get xs m ≡ Some x → test x ≡ true
passes-from test k n m [] x e at is = absurd (none-some e)
passes-from test k n m (y ∷ ys) x e at is = passes-step test k n m y ys x (λ p. passes-from test (k + 1) n p ys x) (test y) refl e at is

first-passes : {X : Type 0} (test : X → Bool) (xs : List X) (n : ℕ) (x : X) → first_number test xs ≡ Some n → item_at xs n ≡ Some x → test x ≡ true
first-passes test xs zero x e is = absurd (none-some is)
first-passes test xs (suc m) x e is = passes-from test 1 (suc m) m xs x e (omega arith) is

-- the edge with the number that was found exists
pub numbered-first : (test : Edge → Bool) (es : List Edge) (n : ℕ) (o : Option NumberedEdge) → Some n ≡ first_number test es → option_map (λ (one : NumberedEdge). one.edge) o ≡ item_at es n → IfSome o (λ one. one.number ≡ n) → option_map (λ (one : NumberedEdge). one.number) o ≡ first_number test es
numbered-first test es n None is edge number = absurd (first-there test es n (sym is) (sym edge))
numbered-first test es n (Some one) is edge number = (λ i. Some (number i)) ∙ is

-- its dependent is the transaction that owes
pub numbered-party : (missing : Missing) (s : ℕ → Status) (t : ℕ) (es : List Edge) (n : ℕ) (o : Option NumberedEdge) → Some n ≡ first_number (owes missing s t) es → option_map (λ (one : NumberedEdge). one.edge) o ≡ item_at es n → IfSome o (λ one. one.edge.j.0 ≡ t)
numbered-party missing s t es n None is edge = tt
numbered-party missing s t es n (Some one) is edge = owes_party missing s t one.edge (first-passes (owes missing s t) es n one.edge (sym is) (sym edge))
