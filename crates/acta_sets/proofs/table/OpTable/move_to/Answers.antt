use Rattle.std.proofs.Common.{◌∙◌}
use Rattle.std.proofs.lemmas.Result.{on_ok_weaker}
use Rattle.acta_sets.proofs.Access.{transferred_of-moved}
use Rattle.acta_sets.proofs.table.OpTable.move_to.Goals as goal

pub returns-clause-moved : goal.returns-clause-moved
returns-clause-moved g c = on_ok_weaker c.transfer.result (λ e. e ∙ transferred_of-moved c.args.from.0 c.args.ops.now c.args.u c.args.self.now c.requires) c.transfer.ensures.transferred
