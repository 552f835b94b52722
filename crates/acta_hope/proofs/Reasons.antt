-- Each reason with its hope.
use Rattle.std.proofs.Common.{◌≡◌, ℕ, true, false, Some, None, sym, ap, ◌∙◌, subst, ◌⊎◌, inl, inr}
use Rattle.std.specs.Option.{option_map_or}
use Rattle.std.proofs.lemmas.Bool.{true≢false}
use Rattle.acta_table.specs.declared.answer.Rule.TheVariants.{BeginDep, SerialDep, BeginOnCommit, BeginOnAbort, TerminationDep}
use Rattle.acta_table.specs.declared.answer.Rule.{Rule}
use Rattle.acta_table.specs.declared.answer.Status.TheVariants.{Committed, Aborted}
use Rattle.acta_table.specs.declared.answer.Status.{Status}
use Rattle.acta_table.specs.declared.event.Event.{Event}
use Rattle.acta_table.specs.declared.event.OpNo.{OpNo}
use Rattle.acta_table.specs.declared.model.Parts.{Parts}
use Rattle.acta_table.specs.declared.event.TxnId.{TxnId}
use Rattle.acta_table.specs.Events.{acting}
use Rattle.acta_table.specs.Fates.{is_open}
use Rattle.acta_deps.specs.Statuses.{has_begun, has_ended, is_decided, is_in_progress}
use Rattle.acta_deps.specs.declared.block.BlockingEdge.{BlockingEdge}
use Rattle.acta_sets.specs.Operations.{is_held, is_held_in, operation_at}
use Rattle.acta_machine.specs.Reasons.{refusal_of}
use Rattle.acta_machine.specs.Summary.{Summary}
use Rattle.acta_machine.specs.Table.{State, after_all, operations_in, status_in}
use Rattle.acta_machine.specs.declared.reason.NumberedOp.{NumberedOp}
use Rattle.acta_machine.specs.declared.reason.Reason.{Reason}
use Rattle.acta_machine.specs.declared.reason.Reason.TheVariants.{Blocked, Conflict, EdgesFull, PartialDelegation, Full, Form, NotInProgress, AlreadyBegun, NotInModel, PartnerNotInProgress, NotResponsible, BadSet, FormTooLate, NoHeir}
use Rattle.acta_hope.specs.declared.hoping.Hope.{Hope}
use Rattle.acta_hope.specs.declared.hoping.Hope.TheVariants.{Never, OnceBegun, OnceHeld, OnceDecided, OnceCommitted, OnceAborted, OnceFree, OnceReleased, OnceFewer, Unknown}
use Rattle.acta_hope.specs.Hopes.{IsHopeless, OnlyWhere, IsWhy, Holds, HasForce, is_of_edge, are_listed, conflicting_holders_of, is_blocking}
use Rattle.acta_hope.specs.Parts.{IsOfBegun, IsOfConflict, IsOfHeld, IsOfLeftOut, IsOfBlockingEdge, IsOfEdges, may_be_unreported, blocks_for_good, is_no_operation}
use Rattle.acta_hope.specs.Rulings.{IsBrokenBy}
use Rattle.acta_hope.proofs.BlockingEdges.{blocked-never, blocked-force, blocked-reported, blocked-begun, blocked-serial, blocked-termination, blocked-commit, blocked-abort}
use Rattle.acta_hope.proofs.Growth.{summary_in, model-after_all}
use Rattle.acta_hope.proofs.Hopes.{Only, Not, only-later, never-later, not-full, not-formed, not-acting, once-acting, not-partner, once-partner, not-started, not-allowed, once-held, not-held, once-there, never-there, not-late, not-few, forms-same, not-heir, once-heir, acting-off, partner-off, heir-off, set-acts, responsible-acts}
use Rattle.acta_hope.proofs.Rulings.{is-broken}
use Rattle.acta_hope.proofs.HeldOn.{held-never}
use Rattle.acta_hope.proofs.Standing.{conflict-gone, conflict-stands, fewer-then, left-let-go, whole-acts}

-- the reasons that no later event removes, whatever they name
abbrev pub IsFinal : Reason → Type 0
IsFinal Full = Unit {0}
IsFinal (Form fault) = Unit {0}
IsFinal (AlreadyBegun t status) = Unit {0}
IsFinal (NotInModel lack) = Unit {0}
IsFinal (FormTooLate t status) = Unit {0}
IsFinal _ = ⊥

module _ {A : Type 0} (state : State A) (e : Event A) where
  abbrev s : Summary
  s = summary_in state

  broken : (reason : Reason) → IsWhy state e reason → IsBrokenBy state.model s e (refusal_of reason) (refusal_of reason).rule
  broken reason why = is-broken state.model s e (refusal_of reason) why.refusal

  pub of-final : (reason : Reason) → IsFinal reason → IsWhy state e reason → IsHopeless state e
  of-final Full is why = never-later state e (not-full state.model s e (refusal_of Full) (broken Full why))
  of-final (Form fault) is why = never-later state e (not-formed state.model s e fault (broken (Form fault) why))
  of-final (AlreadyBegun t status) is why = never-later state e (not-started state.model s e t.0 (broken (AlreadyBegun t status) why))
  of-final (NotInModel lack) is why = never-later state e (not-allowed state.model s e (refusal_of (NotInModel lack)) (broken (NotInModel lack) why))
  of-final (FormTooLate t status) is why = never-later state e (not-late state.model s e t.0 (broken (FormTooLate t status) why))
  of-final _ is why = absurd is

  of-begun : (t : TxnId) (status : Status) (hope : Hope) → IsOfBegun t status hope → (has_ended status ≡ true → Not state.model s e) → Only state.model s e (λ l. has_begun (l.status t.0) ≡ true) → Holds state e hope
  of-begun t status Never is not once = never-later state e (not is)
  of-begun t status (OnceBegun u) is not once =
      subst (λ (v : TxnId). OnlyWhere (λ later. has_begun (status_in later v.0) ≡ true) state e) (sym is) (only-later state e (λ l. has_begun (l.status t.0) ≡ true) once)
  of-begun t status Unknown is not once = tt
  of-begun t status _ is not once = absurd is

  pub of-acting : (t : TxnId) (status : Status) (hope : Hope) → IsOfBegun t status hope → IsWhy state e (NotInProgress t status) → Holds state e hope
  of-acting t status hope is why =
      of-begun t status hope is
      (λ ended. not-acting state.model s e t.0 (ap has_ended (sym why.so) ∙ ended) (broken (NotInProgress t status) why))
      (once-acting state.model s e t.0 (broken (NotInProgress t status) why))

  pub of-partner : (t : TxnId) (status : Status) (hope : Hope) → IsOfBegun t status hope → IsWhy state e (PartnerNotInProgress t status) → Holds state e hope
  of-partner t status hope is why =
      of-begun t status hope is
      (λ ended. not-partner state.model s e t.0 (ap has_ended (sym why.so) ∙ ended) (broken (PartnerNotInProgress t status) why))
      (once-partner state.model s e t.0 (broken (PartnerNotInProgress t status) why))

  pub of-heir : (t : TxnId) (status : Status) (hope : Hope) → IsOfBegun t status hope → IsWhy state e (NoHeir t status) → Holds state e hope
  of-heir t status hope is why =
      of-begun t status hope is
      (λ ended. not-heir state.model s e t.0 (ap has_ended (sym why.so) ∙ ended) (broken (NoHeir t status) why))
      (once-heir state.model s e t.0 (broken (NoHeir t status) why))

  of-held : (n : OpNo) (hope : Hope) → IsOfHeld e n hope → ((t : ℕ) → acting e ≡ Some t → Only state.model s e (λ l. option_map_or (is_held t) (operation_at l.operations n.0) false ≡ true)) → Holds state e hope
  of-held n (OnceHeld t k) is once =
      subst (λ (j : OpNo). OnlyWhere (λ later. is_held_in t.0 (operations_in later) j ≡ true) state e) (sym is.0) (only-later state e (λ l. option_map_or (is_held t.0) (operation_at l.operations n.0) false ≡ true) (once t.0 is.1))
  of-held n Unknown is once = tt
  of-held n _ is once = absurd is

  pub of-responsible : (op : NumberedOp) (hope : Hope) → IsOfHeld e op.number hope → IsWhy state e (NotResponsible op) → Holds state e hope
  of-responsible op hope is why = of-held op.number hope is (λ t acts. once-held state.model s e t op.number.0 acts (broken (NotResponsible op) why))

  pub of-ended : (op : NumberedOp) → is_open op.held.fate ≡ false → IsWhy state e (NotResponsible op) → IsHopeless state e
  of-ended op ended why = never-later state e (not-held state.model s e op.number.0 op.held why.so ended (broken (NotResponsible op) why))

  pub of-set : (n : OpNo) (count : ℕ) (hope : Hope) → IsOfHeld e n hope → IsWhy state e (BadSet n count) → Holds state e hope
  of-set n count hope is why = of-held n hope is (λ t acts. once-there state.model s e t n.0 acts (broken (BadSet n count) why))

  pub of-no-operation : (n : OpNo) (count : ℕ) → is_no_operation n.0 ≡ true → IsWhy state e (BadSet n count) → IsHopeless state e
  of-no-operation n count outside why = never-there state e n.0 outside (broken (BadSet n count) why)

  -- the rule by which the edge blocks
  by-rule : (b : BlockingEdge) → IsWhy state e (Blocked b) → (rule : Rule) → b.rule ≡ rule → IsBrokenBy state.model s e (record { rule = rule; by = Some b.by.number }) rule
  by-rule b why rule is = subst (λ (k : Rule). IsBrokenBy state.model s e (record { rule = k; by = Some b.by.number }) k) is (broken (Blocked b) why)

  decided : (b : BlockingEdge) → IsWhy state e (Blocked b) → (b.rule ≡ SerialDep) ⊎ (b.rule ≡ TerminationDep) → Only state.model s e (λ l. is_decided (l.status b.by.edge.i.0) ≡ true)
  decided b why (inl is) = blocked-serial state.model s e b.by.number b.by.edge why.so.0 (by-rule b why SerialDep is)
  decided b why (inr is) = blocked-termination state.model s e b.by.number b.by.edge why.so.0 (by-rule b why TerminationDep is)

  pub of-blocking_edge : (b : BlockingEdge) (hope : Hope) → IsOfBlockingEdge b hope → IsWhy state e (Blocked b) → Holds state e hope
  of-blocking_edge b Never is why =
      never-later state e (blocked-never state.model s e b.by.number b.by.edge why.so.0 b.rule ((λ k. blocks_for_good b.rule (sym why.so.1 k) (sym why.so.2 k)) ∙ is) (broken (Blocked b) why))
  of-blocking_edge b (OnceBegun t) is why =
      subst (λ (v : TxnId). OnlyWhere (λ later. has_begun (status_in later v.0) ≡ true) state e) (sym is.1)
      (only-later state e (λ l. has_begun (l.status b.by.edge.i.0) ≡ true) (blocked-begun state.model s e b.by.number b.by.edge why.so.0 (by-rule b why BeginDep is.0)))
  of-blocking_edge b (OnceDecided t) is why =
      subst (λ (v : TxnId). OnlyWhere (λ later. is_decided (status_in later v.0) ≡ true) state e) (sym is.1)
      (only-later state e (λ l. is_decided (l.status b.by.edge.i.0) ≡ true) (decided b why is.0))
  of-blocking_edge b (OnceCommitted t) is why =
      subst (λ (v : TxnId). OnlyWhere (λ later. status_in later v.0 ≡ Committed) state e) (sym is.1)
      (only-later state e (λ l. l.status b.by.edge.i.0 ≡ Committed) (blocked-commit state.model s e b.by.number b.by.edge why.so.0 (by-rule b why BeginOnCommit is.0)))
  of-blocking_edge b (OnceAborted t) is why =
      subst (λ (v : TxnId). OnlyWhere (λ later. status_in later v.0 ≡ Aborted) state e) (sym is.1)
      (only-later state e (λ l. l.status b.by.edge.i.0 ≡ Aborted) (blocked-abort state.model s e b.by.number b.by.edge why.so.0 (by-rule b why BeginOnAbort is.0)))
  of-blocking_edge b (OnceHeld t k) is why = absurd is
  of-blocking_edge b (OnceFree k) is why = absurd is
  of-blocking_edge b (OnceReleased t k) is why = absurd is
  of-blocking_edge b OnceFewer is why = absurd is
  of-blocking_edge b Unknown is why = tt

  pub of-edges : (hope : Hope) → IsOfEdges e hope → IsWhy state e EdgesFull → Holds state e hope
  of-edges Never is why = never-later state e (not-few state.model s e (refusal_of EdgesFull) (forms-same state.model s e is) (broken EdgesFull why))
  of-edges OnceFewer is why = λ es none.
      ap (λ m. are_listed (conflicting_holders_of state.model s e) (conflicting_holders_of m (summary_in (after_all state es)) e)) (model-after_all state es)
      ∙ only-later state e (λ l. are_listed (conflicting_holders_of state.model s e) (conflicting_holders_of state.model l e) ≡ false) (fewer-then state.model s e (refusal_of EdgesFull) is (broken EdgesFull why)) es none
  of-edges _ is why = absurd is

  pub of-conflict : (op : NumberedOp) (hope : Hope) → IsOfConflict state.model s e op hope → IsWhy state e (Conflict op) → Holds state e hope
  of-conflict op Never is why = held-never state e op is why.so (broken (Conflict op) why)
  of-conflict op (OnceFree k) is why = λ es none.
      ap (λ m. is_blocking m (summary_in (after_all state es)) e k.0) (model-after_all state es)
      ∙ ap (λ (j : OpNo). is_blocking state.model (summary_in (after_all state es)) e j.0) is.1
      ∙ only-later state e (λ l. is_blocking state.model l e op.number.0 ≡ false) (conflict-gone state.model s e op.number.0 (broken (Conflict op) why)) es none
  of-conflict op _ is why = absurd is

  pub of-left-out : (op : NumberedOp) (hope : Hope) → IsOfLeftOut e op.number hope → IsWhy state e (PartialDelegation op) → Holds state e hope
  of-left-out op (OnceReleased t k) is why =
      subst (λ (n : OpNo). OnlyWhere (λ later. is_held_in t.0 (operations_in later) n ≡ false) state e) (sym is.0)
      (only-later state e (λ l. option_map_or (is_held t.0) (operation_at l.operations op.number.0) false ≡ false) (left-let-go state.model s e t.0 op.number.0 is.1 (broken (PartialDelegation op) why)))
  of-left-out op Unknown is why = tt
  of-left-out op _ is why = absurd is

  -- what the reason names breaks the rule
  pub force : (reason : Reason) → IsWhy state e reason → HasForce state e reason
  force (Conflict op) why = conflict-stands state.model s e op.number.0 op.held why.so (broken (Conflict op) why).0
  force (Blocked b) why = λ is. blocked-force state.model s e b.by.number b.by.edge why.so.0 b.rule is (broken (Blocked b) why)
  force _ why = tt

  -- for these reasons the hope is known

  off : (t : TxnId) (status : Status) (hope : Hope) → IsOfBegun t status hope → hope ≡ Unknown → is_in_progress status ≡ false → ⊥
  off t status Unknown is same stands = true≢false (sym (ap is_in_progress is) ∙ stands)
  off t status _ is same stands = cc

  pub reported-acting : (t : TxnId) (status : Status) (hope : Hope) → IsOfBegun t status hope → IsWhy state e (NotInProgress t status) → hope ≡ Unknown → ⊥
  reported-acting t status hope is why same = off t status hope is same (ap is_in_progress why.so ∙ acting-off state.model s e t.0 (broken (NotInProgress t status) why))

  pub reported-partner : (t : TxnId) (status : Status) (hope : Hope) → IsOfBegun t status hope → IsWhy state e (PartnerNotInProgress t status) → hope ≡ Unknown → ⊥
  reported-partner t status hope is why same = off t status hope is same (ap is_in_progress why.so ∙ partner-off state.model s e t.0 (broken (PartnerNotInProgress t status) why))

  pub reported-heir : (t : TxnId) (status : Status) (hope : Hope) → IsOfBegun t status hope → IsWhy state e (NoHeir t status) → hope ≡ Unknown → ⊥
  reported-heir t status hope is why same = off t status hope is same (ap is_in_progress why.so ∙ heir-off state.model s e t.0 (broken (NoHeir t status) why).0)

  acts : (n : OpNo) (hope : Hope) → IsOfHeld e n hope → hope ≡ Unknown → (acting e ≡ None → ⊥) → ⊥
  acts n Unknown is same never = never is
  acts n _ is same never = cc

  pub reported-responsible : (op : NumberedOp) (hope : Hope) → IsOfHeld e op.number hope → IsWhy state e (NotResponsible op) → hope ≡ Unknown → ⊥
  reported-responsible op hope is why same = acts op.number hope is same (responsible-acts s e op.number.0 (broken (NotResponsible op) why))

  pub reported-set : (n : OpNo) (count : ℕ) (hope : Hope) → IsOfHeld e n hope → IsWhy state e (BadSet n count) → hope ≡ Unknown → ⊥
  reported-set n count hope is why same = acts n hope is same (set-acts s e n.0 (broken (BadSet n count) why))

  pub reported-left-out : (op : NumberedOp) (hope : Hope) → IsOfLeftOut e op.number hope → IsWhy state e (PartialDelegation op) → hope ≡ Unknown → ⊥
  reported-left-out op Unknown is why same = whole-acts state.model s e op.number.0 (broken (PartialDelegation op) why).0 is
  reported-left-out op _ is why same = cc

  pub reported-blocking_edge : (b : BlockingEdge) (hope : Hope) → IsOfBlockingEdge b hope → IsWhy state e (Blocked b) → hope ≡ Unknown → is_of_edge b.rule ≡ false
  reported-blocking_edge b Unknown is why same =
      blocked-reported state.model s e b.by.number b.by.edge why.so.0 b.rule ((λ k. may_be_unreported b.rule (sym why.so.1 k) (sym why.so.2 k)) ∙ is) (broken (Blocked b) why)
  reported-blocking_edge b _ is why same = cc

pub reported-edges : {A : Type 0} (e : Event A) (hope : Hope) → IsOfEdges e hope → hope ≡ Unknown → ⊥
reported-edges e Unknown is same = is
reported-edges e _ is same = cc

pub reported-conflict : {A : Type 0} (m : Parts A) (s : Summary) (e : Event A) (op : NumberedOp) (hope : Hope) → IsOfConflict m s e op hope → hope ≡ Unknown → ⊥
reported-conflict m s e op Unknown is same = is
reported-conflict m s e op _ is same = cc
