use Rattle.std.specs.Prelude.{nat_lt}
use Rattle.std.specs.List.{list_any}
use Rattle.std.proofs.Common.{ap, ◌∙◌}
use Rattle.acta_sets.specs.Operations.{is_against}
use Rattle.acta_sets.proofs.Laws.{totals-filed}
use Rattle.acta_sets.proofs.Others.{against-is}
use Rattle.acta_sets.proofs.table.OpTable.has_conflict.Goals as goal

pub returns : goal.returns
returns g c =
    ap (nat_lt 0) c.others_against.ensures.left
    ∙ against-is c.self.inside.counts c.args.t.0 c.args.ob.0 c.args.op.now c.self.inside.items.items c.args.exempts.now.keys c.self.invariant.filed c.others_against.ensures.ascending
    ∙ ap (list_any (is_against c.args.t.0 c.args.exempts.now.keys c.args.ob.0 c.args.op.now)) c.self.view_is

pub others_against-requires : goal.others_against-requires
others_against-requires g c = totals-filed c.self.inside.counts c.self.inside.items.items c.self.invariant.filed
