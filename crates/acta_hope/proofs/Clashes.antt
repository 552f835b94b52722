-- The hope if a transaction would owe both a commit and an abort.
use Rattle.std.proofs.Common.{◌≡◌, ℕ, zero, suc, Bool, true, false, ◌==◌, ◌&&◌, ◌||◌, not, List, [], ◌∷◌, map, filter, Option, Some, None, refl, sym, ap, ◌∙◌, subst, ◌⊎◌, inl, inr, eqb-true}
use Rattle.std.specs.Prelude.{if◌then◌else◌, slice_get}
use Rattle.std.specs.List.{list_any}
use Rattle.std.proofs.lemmas.Bool.{true≢false, and_parts, and_from, or_left, or_right}
use Rattle.std.proofs.lemmas.Option.{same_Some}
use Rattle.acta_table.specs.declared.answer.Refusal.{Refusal}
use Rattle.acta_table.specs.declared.answer.Rule.TheVariants.{NotInProgress, AlreadyBegun, OwesAbort, OwesCommit, Unpayable, Clash}
use Rattle.acta_table.specs.declared.answer.Status.{Status}
use Rattle.acta_table.specs.declared.answer.Status.TheVariants.{InProgress, Committed, Aborted, Joined}
use Rattle.acta_table.specs.declared.dep.Dep.{Dep}
use Rattle.acta_table.specs.declared.dep.Dep.TheVariants.{Scd, Ad, Wd, Ed, Cmd}
use Rattle.acta_table.specs.declared.dep.Edge.{Edge}
use Rattle.acta_table.specs.declared.dep.Missing.{Missing}
use Rattle.acta_table.specs.declared.dep.Missing.TheVariants.{Commit as commit_due, Abort as abort_due}
use Rattle.acta_table.specs.declared.event.Event.{Event}
use Rattle.acta_table.specs.declared.event.Event.TheVariants.{Begin, Spawn, Split, Join, Delegate, Form, Operate, Commit, Abort, Permit}
use Rattle.acta_table.specs.declared.event.TxnId.{TxnId}
use Rattle.acta_table.specs.declared.model.Parts.{Parts}
use Rattle.acta_table.specs.Dependencies.{is_commit, is_abort}
use Rattle.acta_table.specs.Numbered.{item_at}
use Rattle.acta_deps.specs.declared.block.Clash.{Clash as ClashEdges}
use Rattle.acta_deps.specs.Debts.{debt_by, debt_of, owes_commit, owes_abort, clashes_by, clashing}
use Rattle.acta_deps.specs.Dependencies.{cannot_pay_commit, cannot_pay_abort, is_awaited, begin_dep, serial_dep, begin_on_commit, begin_on_abort, termination_dep, owing_abort, owing_commit, commit_order, weak_begin, unpayable_commit, unpayable_abort, clash, start_refusal, commit_refusal, abort_refusal, join_refusal}
use Rattle.acta_deps.specs.Blocks.{IsClash}
use Rattle.acta_deps.specs.Statuses.{has_begun, has_ended, has_committed, has_aborted, has_joined, with_status}
use Rattle.acta_machine.specs.Reasons.{refusal_of, statuses_after}
use Rattle.acta_machine.specs.Rules.{not_in_progress, already_begun, dependency, earlier_broken}
use Rattle.acta_machine.specs.Summary.{Summary}
use Rattle.acta_machine.specs.Table.{State, status_in}
use Rattle.acta_machine.specs.declared.reason.Reason.TheVariants.{Clash as by_clash}
use Rattle.acta_machine.proofs.Broken.{by_none, in_progress, not_begun}
use Rattle.acta_machine.proofs.Unbroken.{unbroken, none-dependency}
use Rattle.acta_hope.specs.Growth.{IsLater, paid}
use Rattle.acta_hope.specs.Hopes.{OnlyWhere, IsWhy, Holds}
use Rattle.acta_hope.specs.declared.hoping.Hope.{Hope}
use Rattle.acta_hope.specs.declared.hoping.Hope.TheVariants.{Never, OnceCommitted, Unknown}
use Rattle.acta_hope.specs.Parts.{IsOfClash, is_wd, is_helped}
use Rattle.acta_hope.proofs.BlockKinds.{by-parts, none-all, passes, none-passes-at, item-more}
use Rattle.acta_hope.proofs.BlockingEdges.{right-false}
use Rattle.acta_hope.proofs.Debts.{missing-is, debt-parts, debt-later}
use Rattle.acta_hope.proofs.Growth.{summary_in}
use Rattle.acta_hope.proofs.Hopes.{Only, only-later, never-later, none-smallest}
use Rattle.acta_hope.proofs.Rulings.{found, is-broken}

-- if no transaction owes both, none owes a commit by one edge and an abort by another

filtered-none : (p : Edge → Bool) (es : List Edge) (k : ℕ) (f : Edge) → map (λ (e : Edge). e.j.0) (filter p es) ≡ [] → slice_get es k ≡ Some f → p f ≡ false
filtered-none p [] k f none at = absurd (cc)
filtered-none p (x ∷ es) zero f none at = of (p x) refl none
  where
    of : (b : Bool) → p x ≡ b → map (λ (e : Edge). e.j.0) (if b then x ∷ filter p es else filter p es) ≡ [] → p f ≡ false
    of true is none = absurd (cc)
    of false is none = ap p (sym (same_Some _ _ at)) ∙ is
filtered-none p (x ∷ es) (suc k) f none at = of (p x) none (λ h. filtered-none p es k f h at)
  where
    of : (b : Bool) → map (λ (e : Edge). e.j.0) (if b then x ∷ filter p es else filter p es) ≡ [] → (map (λ (e : Edge). e.j.0) (filter p es) ≡ [] → p f ≡ false) → p f ≡ false
    of true none later = absurd (cc)
    of false none later = later none

any-at : (p : Edge → Bool) (es : List Edge) (k : ℕ) (f : Edge) → slice_get es k ≡ Some f → p f ≡ true → list_any p es ≡ true
any-at p [] k f at is = absurd (cc)
any-at p (x ∷ es) zero f at is = or_left (p x) (list_any p es) (ap p (same_Some _ _ at) ∙ is)
any-at p (x ∷ es) (suc k) f at is = or_right (p x) (list_any p es) (any-at p es k f at is)

not-both : (status : ℕ → Status) (es : List Edge) (n k : ℕ) (f g : Edge) → clashing status es ≡ None → item_at es n ≡ Some f → item_at es k ≡ Some g → (g.j.0 == f.j.0) ≡ true → debt_of status f ≡ Some commit_due → debt_of status g ≡ Some abort_due → ⊥
not-both status es zero k f g none at_f at_g same commit abort = cc
not-both status es (suc n) zero f g none at_f at_g same commit abort = cc
not-both status es (suc n) (suc k) f g none at_f at_g same commit abort =
    let owes : owes_abort status f.j.0 g ≡ true = λ x. same x && is_abort (abort x) in
    let by : clashes_by status es f ≡ true =
    and_from (is_commit (debt_of status f)) (list_any (owes_abort status f.j.0) es) (ap is_commit commit) (any-at (owes_abort status f.j.0) es k g at_g owes) in
    true≢false (sym by ∙ filtered-none (clashes_by status es) es n f (none-smallest _ none) at_f)

-- the rule Unpayable refuses an event after which an ended transaction would owe what it did not do

only-committed : (y : Status) → (has_aborted y || has_joined y) ≡ false → has_ended y ≡ true → y ≡ Committed
only-committed Committed can ended = refl
only-committed Aborted can ended = absurd (true≢false can)
only-committed Joined can ended = absurd (true≢false can)
only-committed _ can ended = absurd (true≢false (sym ended))

only-aborted : (y : Status) → (has_committed y || has_joined y) ≡ false → has_ended y ≡ true → y ≡ Aborted
only-aborted Aborted can ended = refl
only-aborted Committed can ended = absurd (true≢false can)
only-aborted Joined can ended = absurd (true≢false can)
only-aborted _ can ended = absurd (true≢false (sym ended))

only-decided : (y : Status) → has_joined y ≡ false → has_ended y ≡ true → (y ≡ Aborted) ⊎ (y ≡ Committed)
only-decided Aborted can ended = inl refl
only-decided Committed can ended = inr refl
only-decided Joined can ended = absurd (true≢false can)
only-decided _ can ended = absurd (true≢false (sym ended))

paid-commit : (kind : Dep) (j y : Status) (missing : Missing) → debt_by kind Committed j ≡ Some missing → cannot_pay_commit kind y ≡ false → has_ended y ≡ true → y ≡ paid missing
paid-commit Scd j y missing owed can ended = only-committed y can ended ∙ ap paid (missing-is _ commit_due missing owed)
paid-commit Ed j y missing owed can ended = only-aborted y can ended ∙ ap paid (missing-is _ abort_due missing owed)
paid-commit _ j y missing owed can ended = absurd (cc)

-- it has paid, or the edge demands nothing of a committed transaction
abbrev Settled : Dep → Missing → Status → Type 0
Settled kind missing y = (y ≡ paid missing) ⊎ ((is_wd kind ≡ true) × (y ≡ Committed))

paid-abort : (kind : Dep) (j y : Status) (missing : Missing) → debt_by kind Aborted j ≡ Some missing → cannot_pay_abort kind y ≡ false → has_ended y ≡ true → Settled kind missing y
paid-abort Ad j y missing owed can ended = inl (only-aborted y can ended ∙ ap paid (missing-is _ abort_due missing owed))
paid-abort Wd j y missing owed can ended =
    elim (only-decided y can ended) [
      | inl is ↦ inl (is ∙ ap paid (missing-is _ abort_due missing owed))
      | inr is ↦ inr (refl, is)
    ]
paid-abort Cmd j y missing owed can ended = inl (only-committed y can ended ∙ ap paid (missing-is _ commit_due missing owed))
paid-abort _ j y missing owed can ended = absurd (cc)

-- what holds wherever an event is admitted that the clash refuses now
abbrev pub Remains : Summary → ClashEdges → Summary → Type 0
Remains s c l = (is_wd c.abort.edge.kind ≡ true) × (has_ended (s.status c.abort.edge.i.0) ≡ false) × (l.status c.commit.edge.j.0 ≡ Committed)

is_commit-due : (o : Option Missing) → is_commit o ≡ true → o ≡ Some commit_due
is_commit-due (Some commit_due) e = refl
is_commit-due (Some abort_due) e = absurd (true≢false (sym e))
is_commit-due None e = absurd (true≢false (sym e))

is_abort-due : (o : Option Missing) → is_abort o ≡ true → o ≡ Some abort_due
is_abort-due (Some abort_due) e = refl
is_abort-due (Some commit_due) e = absurd (true≢false (sym e))
is_abort-due None e = absurd (true≢false (sym e))

-- the case that t, which has not ended, gets this status
module _ (s l : Summary) (later : IsLater s l) (t : ℕ) (x : Status) (new : has_ended (s.status t) ≡ false) where
  abbrev now : ℕ → Status
  now = with_status s.status t x

  abbrev then_ : ℕ → Status
  then_ = with_status l.status t x

  -- the edge is on t, and what would be owed by it for t's new status is settled later
  abbrev Unpaid : Type 0
  Unpaid =
      (n : ℕ) (f : Edge) (missing : Missing) → item_at s.edges n ≡ Some f → (f.i.0 == t) ≡ true → debt_by f.kind x (s.status f.j.0) ≡ Some missing → has_ended (l.status f.j.0) ≡ true → Settled f.kind missing (l.status f.j.0)

  at-later : (n : ℕ) (f : Edge) → item_at s.edges n ≡ Some f → item_at l.edges n ≡ Some f
  at-later n f at = ap (λ es. item_at es n) later.edges.1 ∙ item-more s.edges later.edges.0 n f at

  -- a debt that would arise now would also arise later, unless the owing transaction has ended
  owed-then : (f : Edge) (missing : Missing) → debt_of now f ≡ Some missing → has_ended (then_ f.j.0) ≡ false → debt_of then_ f ≡ Some missing
  owed-then f missing owed still =
      let parts = debt-parts f.kind (now f.i.0) (now f.j.0) missing owed in
      ap (λ i. debt_by f.kind i (then_ f.j.0)) (same (f.i.0 == t) parts.0)
      ∙ debt-later f.kind (now f.i.0) (now f.j.0) (then_ f.j.0) missing owed (begun (f.j.0 == t)) still
    where
      same : (b : Bool) → has_ended (if b then x else s.status f.i.0) ≡ true → (if b then x else l.status f.i.0) ≡ (if b then x else s.status f.i.0)
      same true is = refl
      same false is = later.ended f.i.0 is

      begun : (b : Bool) → has_begun (if b then x else s.status f.j.0) ≡ true → has_begun (if b then x else l.status f.j.0) ≡ true
      begun true is = is
      begun false is = later.begun f.j.0 is

  -- a transaction that has ended since has paid, or the edge is on t
  abbrev Cleared : Edge → Missing → Type 0
  Cleared f missing = (l.status f.j.0 ≡ paid missing) ⊎ ((is_wd f.kind ≡ true) × ((f.i.0 == t) ≡ true) × (l.status f.j.0 ≡ Committed))

  cleared : Unpaid → (n : ℕ) (f : Edge) (missing : Missing) → item_at s.edges n ≡ Some f → (f.j.0 == t) ≡ false → debt_of now f ≡ Some missing → has_ended (l.status f.j.0) ≡ true → Cleared f missing
  cleared unpaid n f missing at other owed ended =
      of (f.i.0 == t) refl (ap (λ b. debt_by f.kind (now f.i.0) (if b then x else s.status f.j.0)) (sym other) ∙ owed)
    where
      of : (b : Bool) → (f.i.0 == t) ≡ b → debt_by f.kind (if b then x else s.status f.i.0) (s.status f.j.0) ≡ Some missing → Cleared f missing
      of true is here = elim (unpaid n f missing at is here ended) [ inl p ↦ inl p | inr q ↦ inr (q.0, is, q.1) ]
      of false is here =
          elim (later.debts n f missing at here) [
            | inl still ↦ absurd (true≢false (sym ended ∙ (debt-parts f.kind (l.status f.i.0) (l.status f.j.0) missing still).1))
            | inr p ↦ inl p
          ]

  module _ (c : ClashEdges) (so : IsClash now s.edges c) (clear : clashing then_ l.edges ≡ None) (unpaid : Unpaid) where
    abbrev f : Edge
    f = c.commit.edge

    abbrev g : Edge
    g = c.abort.edge

    of-f : ((f.j.0 == f.j.0) ≡ true) × (is_commit (debt_of now f) ≡ true)
    of-f = and_parts (f.j.0 == f.j.0) (is_commit (debt_of now f)) (passes (owes_commit now f.j.0) s.edges c.commit.number f so.0.0 so.0.1)

    of-g : ((g.j.0 == f.j.0) ≡ true) × (is_abort (debt_of now g) ≡ true)
    of-g = and_parts (g.j.0 == f.j.0) (is_abort (debt_of now g)) (passes (owes_abort now f.j.0) s.edges c.abort.number g so.1.0 so.1.1)

    same-j : g.j.0 ≡ f.j.0
    same-j = eqb-true g.j.0 f.j.0 of-g.0

    commit-owed : debt_of now f ≡ Some commit_due
    commit-owed = is_commit-due (debt_of now f) of-f.1

    abort-owed : debt_of now g ≡ Some abort_due
    abort-owed = is_abort-due (debt_of now g) of-g.1

    -- the transaction that owes both is not t
    another : (b : Bool) → (f.j.0 == t) ≡ b → has_ended (if b then x else l.status f.j.0) ≡ true → (f.j.0 == t) ≡ false
    another true is ended =
        let open_now : has_ended x ≡ false =
        ap (λ b. has_ended (if b then x else s.status f.j.0)) (sym is) ∙ (debt-parts f.kind (now f.i.0) (now f.j.0) commit_due commit-owed).1 in
        absurd (true≢false (sym ended ∙ open_now))
    another false is ended = is

    -- it has ended since
    ended-then : has_ended (then_ f.j.0) ≡ true → Remains s c l
    ended-then ended =
        let other : (f.j.0 == t) ≡ false = another (f.j.0 == t) refl ended in
        let ended_f : has_ended (l.status f.j.0) ≡ true = ap (λ b. has_ended (if b then x else l.status f.j.0)) (sym other) ∙ ended in
        let committed : l.status f.j.0 ≡ Committed =
        elim (cleared unpaid c.commit.number f commit_due so.0.1 other commit-owed ended_f) [ inl p ↦ p | inr q ↦ q.2 ] in
        let for_g = cleared unpaid c.abort.number g abort_due so.1.1 (ap (λ j. j == t) same-j ∙ other) abort-owed (ap (λ j. has_ended (l.status j)) same-j ∙ ended_f) in
        elim for_g [
          | inl p ↦ absurd (differ (sym p ∙ ap l.status same-j ∙ committed))
          | inr q ↦ (q.0, (ap (λ i. has_ended (s.status i)) (eqb-true g.i.0 t q.1) ∙ new), committed)
        ]
      where
        differ : Aborted ≡ Committed → ⊥
        differ e = true≢false (ap has_aborted e)

    pub remains : Remains s c l
    remains = of (has_ended (then_ f.j.0)) refl
      where
        of : (b : Bool) → has_ended (then_ f.j.0) ≡ b → Remains s c l
        of true ended = ended-then ended
        of false still =
            absurd
            (not-both then_ l.edges c.commit.number c.abort.number f g clear (at-later c.commit.number f so.0.1) (at-later c.abort.number g so.1.1) of-g.0
            (owed-then f commit_due commit-owed still)
            (owed-then g abort_due abort-owed (ap (λ j. has_ended (then_ j)) same-j ∙ still)))

-- by events

start-remains : (s l : Summary) (t : ℕ) (c : ClashEdges) → IsLater s l → has_ended (s.status t) ≡ false → IsClash (with_status s.status t InProgress) s.edges c → start_refusal l.status l.edges t ≡ None → Remains s c l
unfolding start_refusal clash
start-remains s l t c later new so none =
    let rules = begin_dep l.status l.edges t ∷ serial_dep l.status l.edges t ∷ begin_on_commit l.status l.edges t ∷ begin_on_abort l.status l.edges t ∷ clash l.status l.edges t InProgress ∷ [] in
    remains s l later t InProgress new c so (by_none Clash _ (none-all rules none).1.1.1.1.0)
    (λ n f missing at is owed ended. absurd (true≢false (sym (debt-parts f.kind InProgress (s.status f.j.0) missing owed).0)))

commit-remains : (s l : Summary) (t : ℕ) (c : ClashEdges) → IsLater s l → has_ended (s.status t) ≡ false → IsClash (with_status s.status t Committed) s.edges c → commit_refusal l.status l.edges t ≡ None → Remains s c l
unfolding commit_refusal unpayable_commit clash
commit-remains s l t c later new so none =
    let rules = termination_dep l.status l.edges t ∷ owing_abort l.status l.edges t ∷ commit_order l.status l.edges t ∷ weak_begin l.status l.edges t ∷ unpayable_commit l.status l.edges t ∷ clash l.status l.edges t Committed ∷ [] in
    let all = none-all rules none in
    remains s l later t Committed new c so (by_none Clash _ all.1.1.1.1.1.0)
    (λ n f missing at is owed ended.
    inl (paid-commit f.kind (s.status f.j.0) (l.status f.j.0) missing owed
    (right-false (f.i.0 == t) (cannot_pay_commit f.kind (l.status f.j.0)) is
    (none-passes-at (is_awaited cannot_pay_commit l.status t) l.edges n f (by_none Unpayable _ all.1.1.1.1.0) (at-later s l later t Committed new n f at)))
    ended))

abort-remains : (s l : Summary) (t : ℕ) (c : ClashEdges) → IsLater s l → has_ended (s.status t) ≡ false → IsClash (with_status s.status t Aborted) s.edges c → abort_refusal l.status l.edges t ≡ None → Remains s c l
unfolding abort_refusal unpayable_abort clash
abort-remains s l t c later new so none =
    let rules = termination_dep l.status l.edges t ∷ owing_commit l.status l.edges t ∷ unpayable_abort l.status l.edges t ∷ clash l.status l.edges t Aborted ∷ [] in
    let all = none-all rules none in
    remains s l later t Aborted new c so (by_none Clash _ all.1.1.1.0)
    (λ n f missing at is owed ended.
    paid-abort f.kind (s.status f.j.0) (l.status f.j.0) missing owed
    (right-false (f.i.0 == t) (cannot_pay_abort f.kind (l.status f.j.0)) is
    (none-passes-at (is_awaited cannot_pay_abort l.status t) l.edges n f (by_none Unpayable _ all.1.1.0) (at-later s l later t Aborted new n f at)))
    ended)

-- a join makes no transaction owe both
join-clear : (s : Summary) (t : ℕ) (r : Refusal) → join_refusal s.status s.edges t ≡ Some r → r.rule ≡ Clash → ⊥
unfolding join_refusal owing_abort owing_commit
join-clear s t r broken =
    found (r.rule ≡ Clash → ⊥) r (owing_abort s.status s.edges t ∷ owing_commit s.status s.edges t ∷ []) (
      (λ h. λ is. differ-abort (sym (by-parts OwesAbort _ r h).0 ∙ is)),
      λ n1.
          ((λ h. λ is. differ-commit (sym (by-parts OwesCommit _ r h).0 ∙ is)), λ n2. tt),
    )
    broken
  where
    differ-abort : OwesAbort ≡ Clash → ⊥
    differ-abort e = cc

    differ-commit : OwesCommit ≡ Clash → ⊥
    differ-commit e = cc

abbrev refusal : ClashEdges → Refusal
refusal c = record { rule = Clash; by = Some c.commit.edge.j.0 }

clash-remains : {A : Type 0} (m : Parts A) (s : Summary) (e : Event A) (c : ClashEdges) → IsClash (statuses_after s.status e) s.edges c → dependency s e ≡ Some (refusal c) → earlier_broken m s e ≡ None → Only m s e (λ l. Remains s c l)
unfolding not_in_progress already_begun
clash-remains m s (Begin t class) c so broken fine l later none =
    start-remains s l t.0 c later (ap has_ended (not_begun s AlreadyBegun t.0 (unbroken m s (Begin t class) fine).begun)) so (none-dependency m l (Begin t class) none)
clash-remains m s (Spawn t u class) c so broken fine l later none =
    start-remains s l u.0 c later (ap has_ended (not_begun s AlreadyBegun u.0 (unbroken m s (Spawn t u class) fine).begun)) so (none-dependency m l (Spawn t u class) none)
clash-remains m s (Split t u class ops) c so broken fine l later none =
    start-remains s l u.0 c later (ap has_ended (not_begun s AlreadyBegun u.0 (unbroken m s (Split t u class ops) fine).begun)) so (none-dependency m l (Split t u class ops) none)
clash-remains m s (Commit t) c so broken fine l later none =
    commit-remains s l t.0 c later (ap has_ended (in_progress s NotInProgress t.0 (unbroken m s (Commit t) fine).progress)) so (none-dependency m l (Commit t) none)
clash-remains m s (Abort t) c so broken fine l later none =
    abort-remains s l t.0 c later (ap has_ended (in_progress s NotInProgress t.0 (unbroken m s (Abort t) fine).progress)) so (none-dependency m l (Abort t) none)
clash-remains m s (Join t u) c so broken fine l later none = absurd (join-clear s t.0 (refusal c) broken refl)
clash-remains m s (Delegate t u ops) c so broken fine l later none = absurd (cc)
clash-remains m s (Form kind j i) c so broken fine l later none = absurd (cc)
clash-remains m s (Operate t ob op) c so broken fine l later none = absurd (cc)
clash-remains m s (Permit t u ob) c so broken fine l later none = absurd (cc)

pub of-clash : {A : Type 0} (state : State A) (e : Event A) (c : ClashEdges) (i : Status) (hope : Hope) → IsOfClash c i hope → i ≡ status_in state c.abort.edge.i.0 → IsWhy state e (by_clash c) → Holds state e hope
of-clash {A} state e c i hope is stands why = of hope is
  where
    only : Only state.model (summary_in state) e (λ l. Remains (summary_in state) c l)
    only =
        let broken = is-broken state.model (summary_in state) e (refusal_of (by_clash c)) why.refusal in
        clash-remains state.model (summary_in state) e c why.so broken.0 broken.1

    of : (hope : Hope) → IsOfClash c i hope → Holds state e hope
    of Never is =
        never-later state e (λ l later none.
        let left = only l later none in
        let helped : is_helped c i ≡ true = λ k. left.0 k && not ((ap has_ended stands ∙ left.1) k) in
        true≢false (sym helped ∙ is))
    of (OnceCommitted t) is =
        subst (λ (v : TxnId). OnlyWhere (λ later. status_in later v.0 ≡ Committed) state e) (sym is.1)
        (only-later state e (λ l. l.status c.commit.edge.j.0 ≡ Committed) (λ l later none. (only l later none).2))
    of _ is = absurd is

-- the hope is known
pub reported-clash : (c : ClashEdges) (i : Status) (hope : Hope) → IsOfClash c i hope → hope ≡ Unknown → ⊥
reported-clash c i Unknown is same = is
reported-clash c i _ is same = cc
