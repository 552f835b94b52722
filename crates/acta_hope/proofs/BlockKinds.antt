-- An edge that blocks an event also blocks it later, while the statuses of its transactions stay the same.
use Rattle.std.proofs.Common.{◌≡◌, ℕ, zero, suc, ◌+◌, ◌≤◌, Bool, true, false, List, [], ◌∷◌, ◌++◌, fold, Option, Some, None, refl, sym, ap, ◌∙◌, subst, arith}
use Rattle.std.specs.Prelude.{if◌then◌else◌, slice_get}
use Rattle.std.specs.List.{AllByRecursion, position_from}
use Rattle.std.specs.Option.{option_or}
use Rattle.std.proofs.lemmas.Option.{same_Some}
use Rattle.acta_table.specs.declared.answer.Refusal.{Refusal}
use Rattle.acta_table.specs.declared.answer.Rule.{Rule}
use Rattle.acta_table.specs.declared.answer.Rule.TheVariants.{BeginDep, SerialDep, BeginOnCommit, BeginOnAbort, TerminationDep, OwesAbort, OwesCommit, CommitOrder, WeakBegin, Unpayable, Clash}
use Rattle.acta_table.specs.declared.answer.Status.TheVariants.{InProgress, Committed, Aborted}
use Rattle.acta_table.specs.declared.dep.Edge.{Edge}
use Rattle.acta_table.specs.declared.event.Event.{Event}
use Rattle.acta_table.specs.declared.event.Event.TheVariants.{Begin, Spawn, Split, Join, Delegate, Form, Operate, Commit, Abort, Permit}
use Rattle.acta_table.specs.declared.event.TxnId.{TxnId}
use Rattle.acta_table.specs.Numbered.{item_at, first_number}
use Rattle.acta_table.specs.Refusals.{broken_by, first_of}
use Rattle.acta_deps.specs.Dependencies.{begin_dep, serial_dep, begin_on_commit, begin_on_abort, termination_dep, owing_abort, owing_commit, commit_order, weak_begin, unpayable_commit, unpayable_abort, clash, start_refusal, commit_refusal, abort_refusal, join_refusal}
use Rattle.acta_machine.specs.Rules.{dependency}
use Rattle.acta_machine.specs.Summary.{Summary}
use Rattle.acta_machine.proofs.Broken.{by_none}
use Rattle.acta_hope.specs.BlockKinds.{subject, edge_test, IsBy, IsByUnlessClash}
use Rattle.acta_hope.specs.Growth.{IsLater}
use Rattle.acta_hope.proofs.Rulings.{found}

none-all-from : (z : Option Refusal) (xs : List (Option Refusal)) → fold option_or z xs ≡ None → (z ≡ None) × AllByRecursion (λ x. x ≡ None) xs
none-all-from None [] e = (refl, tt)
none-all-from (Some r) [] e = absurd (cc)
none-all-from None (x ∷ xs) e = (refl, none-all-from x xs e)
none-all-from (Some r) (x ∷ xs) e = let more = none-all-from (Some r) xs e in absurd (let h = more.0 in cc)

pub none-all : (xs : List (Option Refusal)) → first_of xs ≡ None → AllByRecursion (λ x. x ≡ None) xs
none-all xs e = (none-all-from None xs e).1

pub by-parts : (rule : Rule) (o : Option ℕ) (r : Refusal) → broken_by rule o ≡ Some r → (r.rule ≡ rule) × (o ≡ r.by)
by-parts rule None r e = absurd (cc)
by-parts rule (Some n) r e = let same = same_Some _ _ e in (ap (λ x. x.rule) (sym same), ap (λ x. x.by) same)

module _ {A : Type 0} (e : Event A) (s : Summary) (r : Refusal) where
  abbrev By : Rule → Type 0
  By = IsByUnlessClash e s r

  named : (rule : Rule) → r.rule ≡ rule → By rule → By r.rule
  named rule same is = subst By (sym same) is

  start-by : ((l : Summary) → dependency l e ≡ start_refusal l.status l.edges (subject e)) → dependency s e ≡ Some r → By r.rule
  unfolding start_refusal begin_dep serial_dep begin_on_commit begin_on_abort clash
  start-by is broken =
      let t = subject e in
      let rules : Summary → List (Option Refusal) = λ l. begin_dep l.status l.edges t ∷ serial_dep l.status l.edges t ∷ begin_on_commit l.status l.edges t ∷ begin_on_abort l.status l.edges t ∷ clash l.status l.edges t InProgress ∷ [] in
      let clear : (l : Summary) → dependency l e ≡ None → AllByRecursion (λ x. x ≡ None) (rules l) = λ l none. none-all (rules l) (sym (is l) ∙ none) in
      found (By r.rule) r (rules s) (
        (λ h. let p = by-parts BeginDep _ r h in named BeginDep p.0 (p.1, λ l none. by_none BeginDep _ (clear l none).0)),
        λ n1. (
          (λ h. let p = by-parts SerialDep _ r h in named SerialDep p.0 (p.1, λ l none. by_none SerialDep _ (clear l none).1.0)),
          λ n2. (
            (λ h. let p = by-parts BeginOnCommit _ r h in named BeginOnCommit p.0 (p.1, λ l none. by_none BeginOnCommit _ (clear l none).1.1.0)),
            λ n3. (
              (λ h. let p = by-parts BeginOnAbort _ r h in named BeginOnAbort p.0 (p.1, λ l none. by_none BeginOnAbort _ (clear l none).1.1.1.0)),
              λ n4.
                  ((λ h. let p = by-parts Clash _ r h in named Clash p.0 tt), λ n5. tt),
            ),
          ),
        ),
      )
      (sym (is s) ∙ broken)

  join-by : ((l : Summary) → dependency l e ≡ join_refusal l.status l.edges (subject e)) → dependency s e ≡ Some r → By r.rule
  unfolding join_refusal owing_abort owing_commit
  join-by is broken =
      let t = subject e in
      let rules : Summary → List (Option Refusal) = λ l. owing_abort l.status l.edges t ∷ owing_commit l.status l.edges t ∷ [] in
      let clear : (l : Summary) → dependency l e ≡ None → AllByRecursion (λ x. x ≡ None) (rules l) = λ l none. none-all (rules l) (sym (is l) ∙ none) in
      found (By r.rule) r (rules s) (
        (λ h. let p = by-parts OwesAbort _ r h in named OwesAbort p.0 (p.1, λ l none. by_none OwesAbort _ (clear l none).0)),
        λ n1.
            ((λ h. let p = by-parts OwesCommit _ r h in named OwesCommit p.0 (p.1, λ l none. by_none OwesCommit _ (clear l none).1.0)), λ n2. tt),
      )
      (sym (is s) ∙ broken)

abbrev committing : {A : Type 0} → TxnId → Event A
committing t = Commit t

abbrev aborting : {A : Type 0} → TxnId → Event A
aborting t = Abort t

commit-by : (A : Type 0) (u : TxnId) (s : Summary) (r : Refusal) → dependency s (committing {A = A} u) ≡ Some r → IsByUnlessClash (committing {A = A} u) s r r.rule
unfolding commit_refusal termination_dep owing_abort commit_order weak_begin unpayable_commit clash
commit-by A u s r broken =
    let e : Event A = Commit u in
    let t = u.0 in
    let rules : Summary → List (Option Refusal) = λ l. termination_dep l.status l.edges t ∷ owing_abort l.status l.edges t ∷ commit_order l.status l.edges t ∷ weak_begin l.status l.edges t ∷ unpayable_commit l.status l.edges t ∷ clash l.status l.edges t Committed ∷ [] in
    let clear : (l : Summary) → dependency l e ≡ None → AllByRecursion (λ x. x ≡ None) (rules l) = λ l none. none-all (rules l) none in
    found (IsByUnlessClash e s r r.rule) r (rules s) (
      (λ h. let p = by-parts TerminationDep _ r h in named e s r TerminationDep p.0 (p.1, λ l none. by_none TerminationDep _ (clear l none).0)),
      λ n1. (
        (λ h. let p = by-parts OwesAbort _ r h in named e s r OwesAbort p.0 (p.1, λ l none. by_none OwesAbort _ (clear l none).1.0)),
        λ n2. (
          (λ h. let p = by-parts CommitOrder _ r h in named e s r CommitOrder p.0 (p.1, λ l none. by_none CommitOrder _ (clear l none).1.1.0)),
          λ n3. (
            (λ h. let p = by-parts WeakBegin _ r h in named e s r WeakBegin p.0 (p.1, λ l none. by_none WeakBegin _ (clear l none).1.1.1.0)),
            λ n4. (
              (λ h. let p = by-parts Unpayable _ r h in named e s r Unpayable p.0 (p.1, λ l none. by_none Unpayable _ (clear l none).1.1.1.1.0)),
              λ n5.
                  ((λ h. let p = by-parts Clash _ r h in named e s r Clash p.0 tt), λ n6. tt),
            ),
          ),
        ),
      ),
    )
    broken

abort-by : (A : Type 0) (u : TxnId) (s : Summary) (r : Refusal) → dependency s (aborting {A = A} u) ≡ Some r → IsByUnlessClash (aborting {A = A} u) s r r.rule
unfolding abort_refusal termination_dep owing_commit unpayable_abort clash
abort-by A u s r broken =
    let e : Event A = Abort u in
    let t = u.0 in
    let rules : Summary → List (Option Refusal) = λ l. termination_dep l.status l.edges t ∷ owing_commit l.status l.edges t ∷ unpayable_abort l.status l.edges t ∷ clash l.status l.edges t Aborted ∷ [] in
    let clear : (l : Summary) → dependency l e ≡ None → AllByRecursion (λ x. x ≡ None) (rules l) = λ l none. none-all (rules l) none in
    found (IsByUnlessClash e s r r.rule) r (rules s) (
      (λ h. let p = by-parts TerminationDep _ r h in named e s r TerminationDep p.0 (p.1, λ l none. by_none TerminationDep _ (clear l none).0)),
      λ n1. (
        (λ h. let p = by-parts OwesCommit _ r h in named e s r OwesCommit p.0 (p.1, λ l none. by_none OwesCommit _ (clear l none).1.0)),
        λ n2. (
          (λ h. let p = by-parts Unpayable _ r h in named e s r Unpayable p.0 (p.1, λ l none. by_none Unpayable _ (clear l none).1.1.0)),
          λ n3.
              ((λ h. let p = by-parts Clash _ r h in named e s r Clash p.0 tt), λ n4. tt),
        ),
      ),
    )
    broken

-- the edge that blocks an event
pub dependency-by : {A : Type 0} (e : Event A) (s : Summary) (r : Refusal) → dependency s e ≡ Some r → IsByUnlessClash e s r r.rule
dependency-by {A} (Begin t class) s r broken = start-by {A = A} (Begin t class) s r (λ l. refl) broken
dependency-by {A} (Spawn t c class) s r broken = start-by {A = A} (Spawn t c class) s r (λ l. refl) broken
dependency-by {A} (Split t u class ops) s r broken = start-by {A = A} (Split t u class ops) s r (λ l. refl) broken
dependency-by {A} (Join t u) s r broken = join-by {A = A} (Join t u) s r (λ l. refl) broken
dependency-by {A} (Commit t) s r broken = commit-by A t s r broken
dependency-by {A} (Abort t) s r broken = abort-by A t s r broken
dependency-by (Delegate t u ops) s r broken = absurd (cc)
dependency-by (Form kind j i) s r broken = absurd (cc)
dependency-by (Operate t ob op) s r broken = absurd (cc)
dependency-by (Permit t u ob) s r broken = absurd (cc)

-- one edge of a list

at-least : {X : Type 0} (test : X → Bool) (k : ℕ) (es : List X) (n : ℕ) → position_from test k es ≡ Some n → k ≤ n
at-least test k [] n e = absurd (cc)
at-least test k (x ∷ es) n e = of (test x) e (at-least test (k + 1) es n)
  where
    of : (b : Bool) → (if b then Some k else position_from test (k + 1) es) ≡ Some n → (position_from test (k + 1) es ≡ Some n → k + 1 ≤ n) → k ≤ n
    of true e later = let same = same_Some k n e in omega (arith, same)
    of false e later = let more = later e in omega (arith, more)

-- the first edge that passes is one that passes
passes-from : {X : Type 0} (test : X → Bool) (k : ℕ) (es : List X) (i : ℕ) (f : X) → position_from test k es ≡ Some (k + i) → slice_get es i ≡ Some f → test f ≡ true
passes-from test k [] i f e at = absurd (cc)
passes-from test k (x ∷ es) zero f e at = of (test x) refl e (λ h. at-least test (k + 1) es (k + 0) h)
  where
    of : (b : Bool) → test x ≡ b → (if b then Some k else position_from test (k + 1) es) ≡ Some (k + 0) → (position_from test (k + 1) es ≡ Some (k + 0) → k + 1 ≤ k + 0) → test f ≡ true
    of true is e later = ap test (sym (same_Some _ _ at)) ∙ is
    of false is e later = let more = later e in absurd (omega (arith, more))
passes-from test k (x ∷ es) (suc i) f e at =
    let same : k + suc i ≡ (k + 1) + i = omega arith in
    of (test x) e (λ h. passes-from test (k + 1) es i f (h ∙ ap Some same) at)
  where
    of : (b : Bool) → (if b then Some k else position_from test (k + 1) es) ≡ Some (k + suc i) → (position_from test (k + 1) es ≡ Some (k + suc i) → test f ≡ true) → test f ≡ true
    of true e later = let same = same_Some k (k + suc i) e in absurd (omega (arith, same))
    of false e later = later e

pub passes : {X : Type 0} (test : X → Bool) (es : List X) (n : ℕ) (f : X) → first_number test es ≡ Some n → item_at es n ≡ Some f → test f ≡ true
passes test es zero f e at = absurd (cc)
passes test es (suc i) f e at = let same : suc i ≡ 1 + i = omega arith in passes-from test 1 es i f (e ∙ ap Some same) at

-- if no edge passes, this one does not
fails-from : {X : Type 0} (test : X → Bool) (k : ℕ) (es : List X) (i : ℕ) (f : X) → position_from test k es ≡ None → slice_get es i ≡ Some f → test f ≡ false
fails-from test k [] i f e at = absurd (cc)
fails-from test k (x ∷ es) zero f e at = of (test x) refl e
  where
    of : (b : Bool) → test x ≡ b → (if b then Some k else position_from test (k + 1) es) ≡ None → test f ≡ false
    of true is e = absurd (cc)
    of false is e = ap test (sym (same_Some _ _ at)) ∙ is
fails-from test k (x ∷ es) (suc i) f e at = of (test x) e (λ h. fails-from test (k + 1) es i f h at)
  where
    of : (b : Bool) → (if b then Some k else position_from test (k + 1) es) ≡ None → (position_from test (k + 1) es ≡ None → test f ≡ false) → test f ≡ false
    of true e later = absurd (cc)
    of false e later = later e

pub none-passes-at : {X : Type 0} (test : X → Bool) (es : List X) (n : ℕ) (f : X) → first_number test es ≡ None → item_at es n ≡ Some f → test f ≡ false
none-passes-at test es zero f e at = absurd (cc)
none-passes-at test es (suc i) f e at = fails-from test 1 es i f e at

-- an edge keeps its number
got-more : (es more : List Edge) (i : ℕ) (f : Edge) → slice_get es i ≡ Some f → slice_get (es ++ more) i ≡ Some f
got-more [] more i f e = absurd (cc)
got-more (x ∷ es) more zero f e = e
got-more (x ∷ es) more (suc i) f e = got-more es more i f e

pub item-more : (es more : List Edge) (n : ℕ) (f : Edge) → item_at es n ≡ Some f → item_at (es ++ more) n ≡ Some f
item-more es more zero f e = absurd (cc)
item-more es more (suc i) f e = got-more es more i f e

-- the edge that blocks an event passes the test of the rule, and fails it when the event is admitted
pub passed-then-failed : {A : Type 0} (e : Event A) (s : Summary) (rule : Rule) (n : ℕ) (f : Edge) → IsBy e s (record { rule = rule; by = Some n }) rule → item_at s.edges n ≡ Some f →
    (edge_test e rule s.status f ≡ true) × ((l : Summary) → IsLater s l → dependency l e ≡ None → edge_test e rule l.status f ≡ false)
passed-then-failed e s rule n f by at = (
  passes (edge_test e rule s.status) s.edges n f by.0 at,
  λ l later none. none-passes-at (edge_test e rule l.status) l.edges n f (by.1 l none) (ap (λ es. item_at es n) later.edges.1 ∙ item-more s.edges later.edges.0 n f at),
)
