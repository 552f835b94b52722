use Rattle.std.proofs.Common.{[], ap, ◌∙◌}
use Rattle.acta_judge.specs.Verdicts.{verdict}
use Rattle.acta_machine.specs.Table.{debts_in}
use Rattle.acta_locked.proofs.Judging.{judged}
use Rattle.acta_locked.proofs.book.Book.verdict.Goals as goal

pub returns-in-Ok : goal.returns-in-Ok
returns-in-Ok g c =
    let state = c.machine-machine.result.now in
    c.in-Ok.ensures.verdict
    ∙ ap (λ m. verdict m c.history-history.result.now) c.model.ensures
    ∙ ap (verdict state.model) c.history-history.ensures.history
    ∙ judged state c.machine-machine.ensures.follows
    ∙ ap (λ s. record { faults = []; owed = debts_in s }) c.machine-machine.ensures.machine
