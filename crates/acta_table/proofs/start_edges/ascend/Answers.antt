use Rattle.std.proofs.Common.{rules}
use Rattle.std.specs.Ordering.{is_lt}
use Rattle.std.proofs.lemmas.Fn.{always_returns_same}
use Rattle.acta_table.specs.declared.start_edges.StartEdge.{StartEdge}
use Rattle.acta_table.specs.Starts.{start_edge_cmp}
use Rattle.acta_table.proofs.StartOrder.{in_order_by_next}
use Rattle.acta_table.proofs.start_edges.ascend.Goals as goal

pub returns : goal.returns
returns c =
    let before = λ (e f : StartEdge). is_lt (start_edge_cmp e f) in
    let same = always_returns_same _ _ _ (λ call answer after called. search rules) in
    in_order_by_next _ _ (c.is_sorted_by.ensures.cases before same)
