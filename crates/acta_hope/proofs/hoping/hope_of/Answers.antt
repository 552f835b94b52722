use Rattle.std.proofs.Common.{inl, inr, sym, ap, subst, ◌∙◌}
use Rattle.acta_table.specs.Fates.{is_open}
use Rattle.acta_hope.specs.Hopes.{IsWhy, MayBeUnreported}
use Rattle.acta_hope.proofs.Growth.{summary_in}
use Rattle.acta_hope.proofs.Clashes.{of-clash, reported-clash}
use Rattle.acta_hope.proofs.Reasons.{IsFinal, of-final, of-acting, of-partner, of-heir, of-responsible, of-ended, of-set, of-no-operation, of-blocking_edge, of-edges, of-conflict, of-left-out, reported-acting, reported-blocking_edge, reported-partner, reported-heir, reported-responsible, reported-set, reported-left-out, reported-edges, reported-conflict}
use Rattle.acta_hope.proofs.hoping.hope_of.Goals as goal

pub returns-in-Full-clause-hope : goal.returns-in-Full-clause-hope
returns-in-Full-clause-hope g c =
    let final : IsFinal c.args.reason.now =
    elim c.in-Full.is [
      | inl e ↦ subst IsFinal (sym e) tt
      | inr a ↦ elim a [
        | inl e ↦ subst IsFinal (sym e.1) tt
        | inr b ↦ elim b [
          | inl e ↦ subst IsFinal (sym e.2) tt
          | inr d ↦ elim d [ inl e ↦ subst IsFinal (sym e.1) tt | inr e ↦ subst IsFinal (sym e.2) tt ]
        ]
      ]
    ] in
    of-final c.args.machine.now c.args.event.now c.args.reason.now final c.requires

pub returns-in-NotInProgress-clause-hope : goal.returns-in-NotInProgress-clause-hope
returns-in-NotInProgress-clause-hope g c =
    of-acting c.args.machine.now c.args.event.now c.in-NotInProgress.txn c.in-NotInProgress.status c.once_begun.result c.once_begun.ensures
    (subst (IsWhy c.args.machine.now c.args.event.now) c.in-NotInProgress.is c.requires)

pub returns-in-PartnerNotInProgress-clause-hope : goal.returns-in-PartnerNotInProgress-clause-hope
returns-in-PartnerNotInProgress-clause-hope g c =
    of-partner c.args.machine.now c.args.event.now c.in-PartnerNotInProgress.txn c.in-PartnerNotInProgress.status c.once_begun-in-PartnerNotInProgress.result c.once_begun-in-PartnerNotInProgress.ensures
    (subst (IsWhy c.args.machine.now c.args.event.now) c.in-PartnerNotInProgress.is c.requires)

pub returns-in-NoHeir-clause-hope : goal.returns-in-NoHeir-clause-hope
returns-in-NoHeir-clause-hope g c =
    of-heir c.args.machine.now c.args.event.now c.in-NoHeir.parent c.in-NoHeir.status c.once_begun-in-NoHeir.result c.once_begun-in-NoHeir.ensures
    (subst (IsWhy c.args.machine.now c.args.event.now) c.in-NoHeir.is c.requires)

pub returns-in-InProgress-clause-hope : goal.returns-in-InProgress-clause-hope
returns-in-InProgress-clause-hope g c =
    of-responsible c.args.machine.now c.args.event.now c.in-NotResponsible.op c.once_held.result c.once_held.ensures
    (subst (IsWhy c.args.machine.now c.args.event.now) c.in-NotResponsible.is c.requires)

pub returns-in-Committed-clause-hope : goal.returns-in-Committed-clause-hope
returns-in-Committed-clause-hope g c =
    of-ended c.args.machine.now c.args.event.now c.in-NotResponsible.op (elim c.in-Committed.is [ inl e ↦ ap is_open e | inr e ↦ ap is_open e ])
    (subst (IsWhy c.args.machine.now c.args.event.now) c.in-NotResponsible.is c.requires)

pub returns-then-is_no_operation-clause-hope : goal.returns-then-is_no_operation-clause-hope
returns-then-is_no_operation-clause-hope g c =
    of-no-operation c.args.machine.now c.args.event.now c.in-BadSet.number c.in-BadSet.operations (sym c.is_no_operation.ensures ∙ c.if-is_no_operation.true)
    (subst (IsWhy c.args.machine.now c.args.event.now) c.in-BadSet.is c.requires)

pub returns-else-is_no_operation-clause-hope : goal.returns-else-is_no_operation-clause-hope
returns-else-is_no_operation-clause-hope g c =
    of-set c.args.machine.now c.args.event.now c.in-BadSet.number c.in-BadSet.operations c.once_held-else-is_no_operation.result c.once_held-else-is_no_operation.ensures
    (subst (IsWhy c.args.machine.now c.args.event.now) c.in-BadSet.is c.requires)

pub returns-in-Blocked-clause-hope : goal.returns-in-Blocked-clause-hope
returns-in-Blocked-clause-hope g c =
    of-blocking_edge c.args.machine.now c.args.event.now c.in-Blocked.blocking_edge c.blocked.result c.blocked.ensures
    (subst (IsWhy c.args.machine.now c.args.event.now) c.in-Blocked.is c.requires)

pub returns-in-NotInProgress-clause-reported : goal.returns-in-NotInProgress-clause-reported
returns-in-NotInProgress-clause-reported g c = λ same.
    absurd (reported-acting c.args.machine.now c.args.event.now c.in-NotInProgress.txn c.in-NotInProgress.status c.once_begun.result c.once_begun.ensures
    (subst (IsWhy c.args.machine.now c.args.event.now) c.in-NotInProgress.is c.requires) same)

pub returns-in-PartnerNotInProgress-clause-reported : goal.returns-in-PartnerNotInProgress-clause-reported
returns-in-PartnerNotInProgress-clause-reported g c = λ same.
    absurd (reported-partner c.args.machine.now c.args.event.now c.in-PartnerNotInProgress.txn c.in-PartnerNotInProgress.status c.once_begun-in-PartnerNotInProgress.result c.once_begun-in-PartnerNotInProgress.ensures
    (subst (IsWhy c.args.machine.now c.args.event.now) c.in-PartnerNotInProgress.is c.requires) same)

pub returns-in-NoHeir-clause-reported : goal.returns-in-NoHeir-clause-reported
returns-in-NoHeir-clause-reported g c = λ same.
    absurd (reported-heir c.args.machine.now c.args.event.now c.in-NoHeir.parent c.in-NoHeir.status c.once_begun-in-NoHeir.result c.once_begun-in-NoHeir.ensures
    (subst (IsWhy c.args.machine.now c.args.event.now) c.in-NoHeir.is c.requires) same)

pub returns-in-InProgress-clause-reported : goal.returns-in-InProgress-clause-reported
returns-in-InProgress-clause-reported g c = λ same.
    absurd (reported-responsible c.args.machine.now c.args.event.now c.in-NotResponsible.op c.once_held.result c.once_held.ensures
    (subst (IsWhy c.args.machine.now c.args.event.now) c.in-NotResponsible.is c.requires) same)

pub returns-else-is_no_operation-clause-reported : goal.returns-else-is_no_operation-clause-reported
returns-else-is_no_operation-clause-reported g c = λ same.
    absurd (reported-set c.args.machine.now c.args.event.now c.in-BadSet.number c.in-BadSet.operations c.once_held-else-is_no_operation.result c.once_held-else-is_no_operation.ensures
    (subst (IsWhy c.args.machine.now c.args.event.now) c.in-BadSet.is c.requires) same)

pub returns-in-EdgesFull-clause-hope : goal.returns-in-EdgesFull-clause-hope
returns-in-EdgesFull-clause-hope g c =
    of-edges c.args.machine.now c.args.event.now c.too_many_edges.result c.too_many_edges.ensures
    (subst (IsWhy c.args.machine.now c.args.event.now) c.in-EdgesFull.is c.requires)

pub returns-in-EdgesFull-clause-reported : goal.returns-in-EdgesFull-clause-reported
returns-in-EdgesFull-clause-reported g c = λ same.
    absurd (reported-edges c.args.event.now c.too_many_edges.result c.too_many_edges.ensures same)

pub returns-in-PartialDelegation-clause-hope : goal.returns-in-PartialDelegation-clause-hope
returns-in-PartialDelegation-clause-hope g c =
    of-left-out c.args.machine.now c.args.event.now c.in-PartialDelegation.op c.once_released.result c.once_released.ensures
    (subst (IsWhy c.args.machine.now c.args.event.now) c.in-PartialDelegation.is c.requires)

pub returns-in-PartialDelegation-clause-reported : goal.returns-in-PartialDelegation-clause-reported
returns-in-PartialDelegation-clause-reported g c = λ same.
    absurd (reported-left-out c.args.machine.now c.args.event.now c.in-PartialDelegation.op c.once_released.result c.once_released.ensures
    (subst (IsWhy c.args.machine.now c.args.event.now) c.in-PartialDelegation.is c.requires) same)

pub returns-in-Conflict-clause-hope : goal.returns-in-Conflict-clause-hope
returns-in-Conflict-clause-hope g c =
    of-conflict c.args.machine.now c.args.event.now c.in-Conflict.op c.in_conflict.result c.in_conflict.ensures
    (subst (IsWhy c.args.machine.now c.args.event.now) c.in-Conflict.is c.requires)

pub returns-in-Conflict-clause-reported : goal.returns-in-Conflict-clause-reported
returns-in-Conflict-clause-reported g c = λ same.
    absurd (reported-conflict c.args.machine.now.model (summary_in c.args.machine.now) c.args.event.now c.in-Conflict.op c.in_conflict.result c.in_conflict.ensures same)

pub returns-in-Blocked-clause-reported : goal.returns-in-Blocked-clause-reported
returns-in-Blocked-clause-reported g c = λ same.
    subst MayBeUnreported (sym c.in-Blocked.is)
    (reported-blocking_edge c.args.machine.now c.args.event.now c.in-Blocked.blocking_edge c.blocked.result c.blocked.ensures
    (subst (IsWhy c.args.machine.now c.args.event.now) c.in-Blocked.is c.requires) same)

pub returns-in-Clash-clause-hope : goal.returns-in-Clash-clause-hope
returns-in-Clash-clause-hope g c =
    of-clash c.args.machine.now c.args.event.now c.in-Clash.clash c.status.result c.owes_both.result c.owes_both.ensures c.status.ensures.status
    (subst (IsWhy c.args.machine.now c.args.event.now) c.in-Clash.is c.requires)

pub returns-in-Clash-clause-reported : goal.returns-in-Clash-clause-reported
returns-in-Clash-clause-reported g c = λ same.
    absurd (reported-clash c.in-Clash.clash c.status.result c.owes_both.result c.owes_both.ensures same)
