use Rattle.std.proofs.Common.{sym, subst, List}
use Rattle.std.specs.List.Sorted.{IsStrictlySortedBy}
use Rattle.acta_table.specs.declared.start_edges.StartEdge.{StartEdge}
use Rattle.acta_table.specs.Starts.{start_edge_cmp}
use Rattle.acta_table.proofs.start_edges.StartEdges.new.Goals as goal

pub invariant_of-result : goal.invariant_of-result
unfolding IsStrictlySortedBy
invariant_of-result g c =
    subst (λ (es : List StartEdge). IsStrictlySortedBy start_edge_cmp es) (sym c.new.ensures) tt
