use Rattle.std.proofs.Common.{◌∙◌, sym, subst, flat_map, List}
use Rattle.std.specs.List.Sorted.{IsStrictlySortedBy}
use Rattle.std.proofs.lemmas.List.Kept.{IsStrictlySortedBy-filter}
use Rattle.acta_table.specs.declared.start_edges.StartEdge.{StartEdge}
use Rattle.acta_table.specs.Dependencies.{all_kinds}
use Rattle.acta_table.specs.Starts.{start_edge_cmp, both_of, is_listed}
use Rattle.acta_table.proofs.StartOrder.{in_order}
use Rattle.acta_table.proofs.start_edges.StartEdges.of.Goals as goal

pub invariant_of-result : goal.invariant_of-result
invariant_of-result g c =
    subst
    (λ (es : List StartEdge). IsStrictlySortedBy start_edge_cmp es)
    (sym (c.of.ensures ∙ c.in_ok-in_order.ensures))
    (IsStrictlySortedBy-filter start_edge_cmp (is_listed c.args.edges.now) (flat_map both_of all_kinds) in_order)
