-- The hope if an edge in force blocks an event.
use Rattle.std.proofs.Common.{◌≡◌, ℕ, Bool, true, false, ◌==◌, ◌&&◌, not, Some, None, refl, sym, ap, ◌∙◌, eqb-true}
use Rattle.std.proofs.lemmas.Bool.{true≢false, and_parts, not-false}
use Rattle.acta_table.specs.declared.answer.Refusal.{Refusal}
use Rattle.acta_table.specs.declared.answer.Rule.{Rule}
use Rattle.acta_table.specs.declared.answer.Rule.TheVariants.{BeginDep, SerialDep, BeginOnCommit, BeginOnAbort, TerminationDep, OwesAbort, OwesCommit, CommitOrder, WeakBegin, Unpayable, NotInProgress, AlreadyBegun}
use Rattle.acta_table.specs.declared.answer.Status.{Status}
use Rattle.acta_table.specs.declared.answer.Status.TheVariants.{Committed, Aborted, Joined}
use Rattle.acta_table.specs.declared.dep.Dep.{Dep}
use Rattle.acta_table.specs.declared.dep.Dep.TheVariants.{Cd, Scd, Ad, Wd, Ed, Cmd, Bd, Sd, Td, Bcd, Bad, Wcd}
use Rattle.acta_table.specs.declared.dep.Edge.{Edge}
use Rattle.acta_table.specs.declared.event.Event.{Event}
use Rattle.acta_table.specs.declared.event.Event.TheVariants.{Begin, Spawn, Split, Join, Delegate, Form, Operate, Commit, Abort, Permit}
use Rattle.acta_table.specs.declared.model.Parts.{Parts}
use Rattle.acta_table.specs.Dependencies.{is_commit, is_abort}
use Rattle.acta_table.specs.Numbered.{item_at}
use Rattle.acta_deps.specs.Debts.{debt_by}
use Rattle.acta_deps.specs.Dependencies.{awaits_begin, awaits_end, awaits_commit, awaits_abort, ends_after, committed_first, began_first, cannot_pay_commit, cannot_pay_abort}
use Rattle.acta_deps.specs.Statuses.{has_begun, has_ended, is_decided, has_committed, has_aborted}
use Rattle.acta_machine.specs.Rules.{not_in_progress, already_begun, dependency, earlier_broken, lowest_broken}
use Rattle.acta_machine.specs.Summary.{Summary}
use Rattle.acta_machine.proofs.Broken.{in_progress, not_begun}
use Rattle.acta_machine.proofs.Unbroken.{unbroken, none-earlier, none-dependency}
use Rattle.acta_hope.specs.BlockKinds.{subject, unpayable_test, edge_test, IsBy}
use Rattle.acta_hope.specs.Growth.{IsLater}
use Rattle.acta_hope.specs.Hopes.{is_of_edge}
use Rattle.acta_hope.specs.Parts.{blocks_for_good, may_be_unreported}
use Rattle.acta_hope.specs.Rulings.{IsBrokenBy}
use Rattle.acta_hope.proofs.BlockKinds.{dependency-by, passed-then-failed}
use Rattle.acta_hope.proofs.Hopes.{Only, Not}

-- the transaction whose edges the rules on dependencies check keeps its status, if the event breaks no earlier rule
subject-same : {A : Type 0} (m : Parts A) (s l : Summary) (e : Event A) (r : Refusal) → dependency s e ≡ Some r → earlier_broken m s e ≡ None → earlier_broken m l e ≡ None → l.status (subject e) ≡ s.status (subject e)
unfolding not_in_progress already_begun
subject-same m s l (Begin t class) r broken a b = not_begun l AlreadyBegun t.0 (unbroken m l (Begin t class) b).begun ∙ sym (not_begun s AlreadyBegun t.0 (unbroken m s (Begin t class) a).begun)
subject-same m s l (Spawn t c class) r broken a b = not_begun l AlreadyBegun c.0 (unbroken m l (Spawn t c class) b).begun ∙ sym (not_begun s AlreadyBegun c.0 (unbroken m s (Spawn t c class) a).begun)
subject-same m s l (Split t u class ops) r broken a b = not_begun l AlreadyBegun u.0 (unbroken m l (Split t u class ops) b).begun ∙ sym (not_begun s AlreadyBegun u.0 (unbroken m s (Split t u class ops) a).begun)
subject-same m s l (Join t u) r broken a b = in_progress l NotInProgress t.0 (unbroken m l (Join t u) b).progress ∙ sym (in_progress s NotInProgress t.0 (unbroken m s (Join t u) a).progress)
subject-same m s l (Commit t) r broken a b = in_progress l NotInProgress t.0 (unbroken m l (Commit t) b).progress ∙ sym (in_progress s NotInProgress t.0 (unbroken m s (Commit t) a).progress)
subject-same m s l (Abort t) r broken a b = in_progress l NotInProgress t.0 (unbroken m l (Abort t) b).progress ∙ sym (in_progress s NotInProgress t.0 (unbroken m s (Abort t) a).progress)
subject-same m s l (Delegate t u ops) r broken a b = cc
subject-same m s l (Form kind j i) r broken a b = cc
subject-same m s l (Operate t ob op) r broken a b = cc
subject-same m s l (Permit t u ob) r broken a b = cc

unpayable-same : {A : Type 0} (e : Event A) (a b : ℕ → Status) (f : Edge) → a f.j.0 ≡ b f.j.0 → unpayable_test e a f ≡ unpayable_test e b f
unpayable-same (Commit t) a b f same = ap (λ x. (f.i.0 == t.0) && cannot_pay_commit f.kind x) same
unpayable-same (Abort t) a b f same = ap (λ x. (f.i.0 == t.0) && cannot_pay_abort f.kind x) same
unpayable-same (Begin t class) a b f same = refl
unpayable-same (Spawn t c class) a b f same = refl
unpayable-same (Split t u class ops) a b f same = refl
unpayable-same (Join t u) a b f same = refl
unpayable-same (Delegate t u ops) a b f same = refl
unpayable-same (Form kind j i) a b f same = refl
unpayable-same (Operate t ob op) a b f same = refl
unpayable-same (Permit t u ob) a b f same = refl

began-later : (kind : Dep) (x y : Status) → (has_begun x ≡ true → has_begun y ≡ true) → began_first kind x ≡ true → began_first kind y ≡ true
began-later Wcd x y later is = later is
began-later _ x y later is = is

pub right-false : (a b : Bool) → a ≡ true → (a && b) ≡ false → b ≡ false
right-false true b is e = e
right-false false b is e = cc

begun-since : (kind : Dep) (x y : Status) → awaits_begin kind x ≡ true → awaits_begin kind y ≡ false → has_begun y ≡ true
begun-since Bd x y is e = not-false (has_begun y) e
begun-since _ x y is e = cc

decided-since : (kind : Dep) (x y : Status) → awaits_end kind x ≡ true → awaits_end kind y ≡ false → is_decided y ≡ true
decided-since Sd x y is e = not-false (is_decided y) e
decided-since _ x y is e = cc

ended-since : (kind : Dep) (x y : Status) → ends_after kind x ≡ true → ends_after kind y ≡ false → is_decided y ≡ true
ended-since Td x y is e = not-false (is_decided y) e
ended-since _ x y is e = cc

is_committed : (y : Status) → has_committed y ≡ true → y ≡ Committed
is_committed Committed e = refl
is_committed _ e = cc

is_aborted : (y : Status) → has_aborted y ≡ true → y ≡ Aborted
is_aborted Aborted e = refl
is_aborted _ e = cc

committed-since : (kind : Dep) (x y : Status) → awaits_commit kind x ≡ true → awaits_commit kind y ≡ false → y ≡ Committed
committed-since Bcd x y is e = is_committed y (not-false (has_committed y) e)
committed-since _ x y is e = cc

aborted-since : (kind : Dep) (x y : Status) → awaits_abort kind x ≡ true → awaits_abort kind y ≡ false → y ≡ Aborted
aborted-since Bad x y is e = is_aborted y (not-false (has_aborted y) e)
aborted-since _ x y is e = cc

-- in these cases the transaction by which the edge blocks has ended

owed-commit : (kind : Dep) (i j : Status) → is_commit (debt_by kind i j) ≡ true → has_ended i ≡ true
owed-commit kind Committed j e = refl
owed-commit kind Aborted j e = refl
owed-commit kind Joined j e = refl
owed-commit Scd _ j e = cc
owed-commit Ad _ j e = cc
owed-commit Wd _ j e = cc
owed-commit Ed _ j e = cc
owed-commit Cmd _ j e = cc
owed-commit _ _ j e = cc

owed-abort : (kind : Dep) (i j : Status) → is_abort (debt_by kind i j) ≡ true → has_ended i ≡ true
owed-abort kind Committed j e = refl
owed-abort kind Aborted j e = refl
owed-abort kind Joined j e = refl
owed-abort Scd _ j e = cc
owed-abort Ad _ j e = cc
owed-abort Wd _ j e = cc
owed-abort Ed _ j e = cc
owed-abort Cmd _ j e = cc
owed-abort _ _ j e = cc

first-ended : (kind : Dep) (j : Status) → committed_first kind j ≡ true → has_ended j ≡ true
first-ended kind Committed e = refl
first-ended kind Aborted e = refl
first-ended kind Joined e = refl
first-ended Cd _ e = cc
first-ended _ _ e = cc

commit-unpaid : (kind : Dep) (j : Status) → cannot_pay_commit kind j ≡ true → has_ended j ≡ true
commit-unpaid kind Committed e = refl
commit-unpaid kind Aborted e = refl
commit-unpaid kind Joined e = refl
commit-unpaid Scd _ e = cc
commit-unpaid Ed _ e = cc
commit-unpaid _ _ e = cc

abort-unpaid : (kind : Dep) (j : Status) → cannot_pay_abort kind j ≡ true → has_ended j ≡ true
abort-unpaid kind Committed e = refl
abort-unpaid kind Aborted e = refl
abort-unpaid kind Joined e = refl
abort-unpaid Ad _ e = cc
abort-unpaid Wd _ e = cc
abort-unpaid Cmd _ e = cc
abort-unpaid _ _ e = cc

unpaid-ended : {A : Type 0} (e : Event A) (status : ℕ → Status) (f : Edge) → unpayable_test e status f ≡ true → has_ended (status f.j.0) ≡ true
unpaid-ended (Commit t) status f is = commit-unpaid f.kind (status f.j.0) (and_parts (f.i.0 == t.0) (cannot_pay_commit f.kind (status f.j.0)) is).1
unpaid-ended (Abort t) status f is = abort-unpaid f.kind (status f.j.0) (and_parts (f.i.0 == t.0) (cannot_pay_abort f.kind (status f.j.0)) is).1
unpaid-ended (Begin t class) status f is = absurd (true≢false (sym is))
unpaid-ended (Spawn t c class) status f is = absurd (true≢false (sym is))
unpaid-ended (Split t u class ops) status f is = absurd (true≢false (sym is))
unpaid-ended (Join t u) status f is = absurd (true≢false (sym is))
unpaid-ended (Delegate t u ops) status f is = absurd (true≢false (sym is))
unpaid-ended (Form kind j i) status f is = absurd (true≢false (sym is))
unpaid-ended (Operate t ob op) status f is = absurd (true≢false (sym is))
unpaid-ended (Permit t u ob) status f is = absurd (true≢false (sym is))

not-both : (b : Bool) → b ≡ true → not b ≡ true → ⊥
not-both true is e = cc
not-both false is e = cc

module _ {A : Type 0} (m : Parts A) (s : Summary) (e : Event A) (n : ℕ) (f : Edge) (at : item_at s.edges n ≡ Some f) where
  abbrev refusal : Rule → Refusal
  refusal rule = record { rule = rule; by = Some n }

  -- the test of the rule passes now, and fails when the event is admitted
  abbrev Turns : Rule → Type 0
  Turns rule = (edge_test e rule s.status f ≡ true) × Only m s e (λ l. edge_test e rule l.status f ≡ false)

  turns : (rule : Rule) → IsBy e s (refusal rule) rule → Turns rule
  turns rule by = let both = passed-then-failed e s rule n f by at in (both.0, λ l later none. both.1 l later (none-dependency m l e none))

  -- so the event is never admitted if the test's result never changes
  stuck : (rule : Rule) → Turns rule → ((l : Summary) → IsLater s l → lowest_broken m l e ≡ None → edge_test e rule l.status f ≡ edge_test e rule s.status f) → Not m s e
  stuck rule turn same l later none = true≢false (sym turn.0 ∙ sym (same l later none) ∙ turn.1 l later none)

  i-stays : has_ended (s.status f.i.0) ≡ true → (l : Summary) → IsLater s l → l.status f.i.0 ≡ s.status f.i.0
  i-stays ended l later = later.ended f.i.0 ended

  j-stays : has_ended (s.status f.j.0) ≡ true → (l : Summary) → IsLater s l → l.status f.j.0 ≡ s.status f.j.0
  j-stays ended l later = later.ended f.j.0 ended

  abbrev Broken : Rule → Type 0
  Broken rule = IsBrokenBy m s e (refusal rule) rule

  -- the dependent transaction is the event's, and keeps its status
  party-stays : (r : Refusal) → dependency s e ≡ Some r → earlier_broken m s e ≡ None → (f.j.0 == subject e) ≡ true → (l : Summary) → lowest_broken m l e ≡ None → l.status f.j.0 ≡ s.status f.j.0
  party-stays r broken fine is l none =
      let same = eqb-true f.j.0 (subject e) is in
      ap l.status same ∙ subject-same m s l e r broken fine (none-earlier m l e none) ∙ ap s.status (sym same)

  begun-never : Broken WeakBegin → Not m s e
  begun-never b l later none =
      let turn = turns WeakBegin (dependency-by e s (refusal WeakBegin) b.0) in
      let parts = and_parts (f.i.0 == subject e) (began_first f.kind (s.status f.j.0)) turn.0 in
      true≢false (sym (began-later f.kind (s.status f.j.0) (l.status f.j.0) (later.begun f.j.0) parts.1) ∙ right-false (f.i.0 == subject e) (began_first f.kind (l.status f.j.0)) parts.0 (turn.1 l later none))

  pub blocked-never : (rule : Rule) → blocks_for_good rule (s.status f.j.0) (s.status f.i.0) ≡ true → Broken rule → Not m s e
  blocked-never SerialDep ended b = stuck SerialDep (turns SerialDep (dependency-by e s (refusal SerialDep) b.0)) (λ l later none. ap (λ x. (f.j.0 == subject e) && awaits_end f.kind x) (i-stays ended l later))
  blocked-never BeginOnCommit ended b = stuck BeginOnCommit (turns BeginOnCommit (dependency-by e s (refusal BeginOnCommit) b.0)) (λ l later none. ap (λ x. (f.j.0 == subject e) && awaits_commit f.kind x) (i-stays ended l later))
  blocked-never BeginOnAbort ended b = stuck BeginOnAbort (turns BeginOnAbort (dependency-by e s (refusal BeginOnAbort) b.0)) (λ l later none. ap (λ x. (f.j.0 == subject e) && awaits_abort f.kind x) (i-stays ended l later))
  blocked-never TerminationDep ended b = stuck TerminationDep (turns TerminationDep (dependency-by e s (refusal TerminationDep) b.0)) (λ l later none. ap (λ x. (f.j.0 == subject e) && ends_after f.kind x) (i-stays ended l later))
  blocked-never OwesAbort ended b =
      let turn = turns OwesAbort (dependency-by e s (refusal OwesAbort) b.0) in
      let is = (and_parts (f.j.0 == subject e) (is_abort (debt_by f.kind (s.status f.i.0) (s.status f.j.0))) turn.0).0 in
      stuck OwesAbort turn (λ l later none. λ k. (f.j.0 == subject e) && is_abort (debt_by f.kind (i-stays ended l later k) (party-stays (refusal OwesAbort) b.0 b.1 is l none k)))
  blocked-never OwesCommit ended b =
      let turn = turns OwesCommit (dependency-by e s (refusal OwesCommit) b.0) in
      let is = (and_parts (f.j.0 == subject e) (is_commit (debt_by f.kind (s.status f.i.0) (s.status f.j.0))) turn.0).0 in
      stuck OwesCommit turn (λ l later none. λ k. (f.j.0 == subject e) && is_commit (debt_by f.kind (i-stays ended l later k) (party-stays (refusal OwesCommit) b.0 b.1 is l none k)))
  blocked-never CommitOrder ended b = stuck CommitOrder (turns CommitOrder (dependency-by e s (refusal CommitOrder) b.0)) (λ l later none. ap (λ x. (f.i.0 == subject e) && committed_first f.kind x) (j-stays ended l later))
  blocked-never Unpayable ended b = stuck Unpayable (turns Unpayable (dependency-by e s (refusal Unpayable) b.0)) (λ l later none. unpayable-same e l.status s.status f (j-stays ended l later))
  blocked-never WeakBegin ended b = begun-never b
  blocked-never _ ended b = absurd (true≢false (sym ended))

  pub blocked-begun : Broken BeginDep → Only m s e (λ l. has_begun (l.status f.i.0) ≡ true)
  blocked-begun b l later none =
      let turn = turns BeginDep (dependency-by e s (refusal BeginDep) b.0) in
      let parts = and_parts (f.j.0 == subject e) (awaits_begin f.kind (s.status f.i.0)) turn.0 in
      begun-since f.kind (s.status f.i.0) (l.status f.i.0) parts.1 (right-false (f.j.0 == subject e) (awaits_begin f.kind (l.status f.i.0)) parts.0 (turn.1 l later none))

  pub blocked-serial : Broken SerialDep → Only m s e (λ l. is_decided (l.status f.i.0) ≡ true)
  blocked-serial b l later none =
      let turn = turns SerialDep (dependency-by e s (refusal SerialDep) b.0) in
      let parts = and_parts (f.j.0 == subject e) (awaits_end f.kind (s.status f.i.0)) turn.0 in
      decided-since f.kind (s.status f.i.0) (l.status f.i.0) parts.1 (right-false (f.j.0 == subject e) (awaits_end f.kind (l.status f.i.0)) parts.0 (turn.1 l later none))

  pub blocked-termination : Broken TerminationDep → Only m s e (λ l. is_decided (l.status f.i.0) ≡ true)
  blocked-termination b l later none =
      let turn = turns TerminationDep (dependency-by e s (refusal TerminationDep) b.0) in
      let parts = and_parts (f.j.0 == subject e) (ends_after f.kind (s.status f.i.0)) turn.0 in
      ended-since f.kind (s.status f.i.0) (l.status f.i.0) parts.1 (right-false (f.j.0 == subject e) (ends_after f.kind (l.status f.i.0)) parts.0 (turn.1 l later none))

  pub blocked-commit : Broken BeginOnCommit → Only m s e (λ l. l.status f.i.0 ≡ Committed)
  blocked-commit b l later none =
      let turn = turns BeginOnCommit (dependency-by e s (refusal BeginOnCommit) b.0) in
      let parts = and_parts (f.j.0 == subject e) (awaits_commit f.kind (s.status f.i.0)) turn.0 in
      committed-since f.kind (s.status f.i.0) (l.status f.i.0) parts.1 (right-false (f.j.0 == subject e) (awaits_commit f.kind (l.status f.i.0)) parts.0 (turn.1 l later none))

  pub blocked-abort : Broken BeginOnAbort → Only m s e (λ l. l.status f.i.0 ≡ Aborted)
  blocked-abort b l later none =
      let turn = turns BeginOnAbort (dependency-by e s (refusal BeginOnAbort) b.0) in
      let parts = and_parts (f.j.0 == subject e) (awaits_abort f.kind (s.status f.i.0)) turn.0 in
      aborted-since f.kind (s.status f.i.0) (l.status f.i.0) parts.1 (right-false (f.j.0 == subject e) (awaits_abort f.kind (l.status f.i.0)) parts.0 (turn.1 l later none))

  -- the hope is known if an edge blocks
  pub blocked-reported : (rule : Rule) → may_be_unreported rule (s.status f.j.0) (s.status f.i.0) ≡ true → Broken rule → is_of_edge rule ≡ false
  blocked-reported OwesAbort may b =
      let turn = turns OwesAbort (dependency-by e s (refusal OwesAbort) b.0) in
      absurd (not-both (has_ended (s.status f.i.0)) (owed-abort f.kind (s.status f.i.0) (s.status f.j.0) (and_parts (f.j.0 == subject e) (is_abort (debt_by f.kind (s.status f.i.0) (s.status f.j.0))) turn.0).1) may)
  blocked-reported OwesCommit may b =
      let turn = turns OwesCommit (dependency-by e s (refusal OwesCommit) b.0) in
      absurd (not-both (has_ended (s.status f.i.0)) (owed-commit f.kind (s.status f.i.0) (s.status f.j.0) (and_parts (f.j.0 == subject e) (is_commit (debt_by f.kind (s.status f.i.0) (s.status f.j.0))) turn.0).1) may)
  blocked-reported CommitOrder may b =
      let turn = turns CommitOrder (dependency-by e s (refusal CommitOrder) b.0) in
      absurd (not-both (has_ended (s.status f.j.0)) (first-ended f.kind (s.status f.j.0) (and_parts (f.i.0 == subject e) (committed_first f.kind (s.status f.j.0)) turn.0).1) may)
  blocked-reported Unpayable may b =
      let turn = turns Unpayable (dependency-by e s (refusal Unpayable) b.0) in
      absurd (not-both (has_ended (s.status f.j.0)) (unpaid-ended e s.status f turn.0) may)
  blocked-reported BeginDep may b = absurd (true≢false (sym may))
  blocked-reported SerialDep may b = absurd (true≢false (sym may))
  blocked-reported BeginOnCommit may b = absurd (true≢false (sym may))
  blocked-reported BeginOnAbort may b = absurd (true≢false (sym may))
  blocked-reported TerminationDep may b = absurd (true≢false (sym may))
  blocked-reported WeakBegin may b = absurd (true≢false (sym may))
  blocked-reported _ may b = refl

  -- the rule blocks the event by the named edge
  pub blocked-force : (rule : Rule) → is_of_edge rule ≡ true → Broken rule → edge_test e rule s.status f ≡ true
  blocked-force BeginDep is b = (turns BeginDep (dependency-by e s (refusal BeginDep) b.0)).0
  blocked-force SerialDep is b = (turns SerialDep (dependency-by e s (refusal SerialDep) b.0)).0
  blocked-force BeginOnCommit is b = (turns BeginOnCommit (dependency-by e s (refusal BeginOnCommit) b.0)).0
  blocked-force BeginOnAbort is b = (turns BeginOnAbort (dependency-by e s (refusal BeginOnAbort) b.0)).0
  blocked-force TerminationDep is b = (turns TerminationDep (dependency-by e s (refusal TerminationDep) b.0)).0
  blocked-force OwesAbort is b = (turns OwesAbort (dependency-by e s (refusal OwesAbort) b.0)).0
  blocked-force OwesCommit is b = (turns OwesCommit (dependency-by e s (refusal OwesCommit) b.0)).0
  blocked-force CommitOrder is b = (turns CommitOrder (dependency-by e s (refusal CommitOrder) b.0)).0
  blocked-force WeakBegin is b = (turns WeakBegin (dependency-by e s (refusal WeakBegin) b.0)).0
  blocked-force Unpayable is b = (turns Unpayable (dependency-by e s (refusal Unpayable) b.0)).0
  blocked-force _ is b = absurd (true≢false (sym is))
