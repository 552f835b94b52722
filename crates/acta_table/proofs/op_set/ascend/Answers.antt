use Rattle.std.specs.Prelude.{nat_lt}
use Rattle.std.proofs.Common.{rules}
use Rattle.std.proofs.lemmas.Fn.{always_returns_same}
use Rattle.acta_table.specs.declared.event.OpNo.{OpNo}
use Rattle.acta_table.proofs.InOrder.{in_order_by_next}
use Rattle.acta_table.proofs.op_set.ascend.Goals as goal

pub returns : goal.returns
returns c =
    let same = always_returns_same _ _ _ (λ call answer after called. search rules) in
    in_order_by_next _ _ (c.is_sorted_by.ensures.cases (λ (o p : OpNo). nat_lt o.0 p.0) same)
