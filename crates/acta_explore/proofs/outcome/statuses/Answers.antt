use Rattle.std.proofs.Common.{◌++◌, ◌∷◌, [], ap, ◌∙◌, sym, List}
use Rattle.acta_table.specs.declared.limits.TheConstants.{LAST_TXN}
use Rattle.acta_machine.specs.Table.{status_in}
use Rattle.acta_explore.specs.declared.outcome.TxnStatus.{TxnStatus}
use Rattle.acta_explore.specs.Outcomes.{begun_status}
use Rattle.acta_explore.proofs.Looping.{some-above, none-above, none-unknown}
use Rattle.acta_explore.proofs.Owing.{not-begun}
use Rattle.acta_explore.proofs.outcome.statuses.Goals as goal

pub loop-t-preserved-in_default : goal.loop-t-preserved-in_default
loop-t-preserved-in_default g c =
    c.loop-t.invariant ∙ sym (none-above (begun_status (status_in c.args.machine.now)) c.loop-t.t c.loop-t.auto.t (sym c.begun_status.ensures ∙ c.in_default.is))

pub loop-t-preserved : goal.loop-t-preserved
loop-t-preserved g c =
    c.in_ok-push.ensures.items ∙ (ap (λ (rs : List TxnStatus). rs ++ c.in-Some.status ∷ []) c.loop-t.invariant
    ∙ sym (some-above (begun_status (status_in c.args.machine.now)) c.loop-t.t c.in-Some.status c.loop-t.auto.t (sym c.begun_status.ensures ∙ c.in-Some.is)))

pub returns : goal.returns
returns g c =
    c.before.loop-t.invariant
    ∙ none-unknown (begun_status (status_in c.args.machine.now)) c.known_txns-t-end.result c.loop-t.t LAST_TXN c.loop-t.auto.t c.loop-t.auto.t-end c.loop-t-test.false c.known_txns-t-end.ensures.few
    (λ t past. not-begun (status_in c.args.machine.now) t (c.known_txns-t-end.ensures.status t past))
