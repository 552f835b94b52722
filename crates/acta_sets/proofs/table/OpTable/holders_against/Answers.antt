use Rattle.std.proofs.Common.{sym, ◌∙◌}
use Rattle.acta_sets.proofs.Among.{nobody-against}
use Rattle.acta_sets.proofs.table.OpTable.holders_against.Goals as goal

pub returns-else-has_conflict : goal.returns-else-has_conflict
returns-else-has_conflict g c =
    c.new.ensures.empty ∙ nobody-against c.args.t.0 c.args.exempts.now.keys c.args.ob.0 c.args.op.now c.args.self.now (sym c.has_conflict.ensures ∙ c.if-has_conflict.false)
