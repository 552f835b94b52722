use Rattle.std.proofs.Common.{◌∙◌, ap, map, length, List}
use Rattle.std.specs.List.{filter_map, range_with_len}
use Rattle.std.proofs.lemmas.Result.{IfOk-from_err}
use Rattle.acta_machine.specs.Table.{State, status_in, value_in}
use Rattle.acta_table.specs.declared.limits.TheConstants.{LAST_TXN}
use Rattle.acta_explore.specs.Outcomes.{begun_status, debts_of, outcome}
use Rattle.acta_explore.specs.Programs.{lines_done}
use Rattle.acta_explore.specs.declared.point.Step.{Step}
use Rattle.acta_explore.proofs.outcome.Outcome.of.Goals as goal

pub returns-in_err-values : goal.returns-in_err-values
returns-in_err-values g c = IfOk-from_err c.from_residual-in_err-values.result _ c.from_residual-in_err-values.ensures.0

pub returns-in_err-debts : goal.returns-in_err-debts
returns-in_err-debts g c = IfOk-from_err c.from_residual-in_err-debts.result _ c.from_residual-in_err-debts.ensures.0

pub returns : goal.returns
unfolding outcome
returns g c =
    let lines = c.in_ok-lines.ensures ∙ ap (λ (ss : List Step). lines_done c.args.plan.now ss) c.steps.ensures in
    let waits = c.in_ok-waits.ensures in
    let statuses = c.in_ok-statuses.ensures ∙ ap (λ (s : State _). filter_map (begun_status (status_in s)) (range_with_len 1 LAST_TXN)) c.machine-machine.ensures in
    let values = c.in_ok-values.ensures ∙ ap (λ (s : State _). map (value_in s) (range_with_len 0 (length s.model.objects))) c.machine-machine.ensures in
    let debts = c.in_ok-debts.ensures ∙ ap (λ (s : State _). debts_of s) c.machine-machine.ensures in
    λ i. record { lines = lines i; waiting = waits i; statuses = statuses i; values = values i; debts = debts i }
