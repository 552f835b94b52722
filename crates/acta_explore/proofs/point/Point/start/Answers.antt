use Rattle.std.proofs.Common.{◌∙◌, ap}
use Rattle.std.proofs.lemmas.Result.{IfOk-weaker}
use Rattle.acta_table.specs.declared.model.Parts.{Parts}
use Rattle.acta_machine.specs.Table.{fresh}
use Rattle.acta_explore.specs.Histories.{after_history}
use Rattle.acta_explore.proofs.point.Point.start.Goals as goal

pub returns : goal.returns
returns g c = IfOk-weaker c.after.result _ _ (λ point h. h ∙ (ap after_history c.in_ok-machine.ensures.fresh ∙ ap (λ (m : Parts _). after_history (fresh m)) c.in_ok-copy.ensures)) c.after.ensures
