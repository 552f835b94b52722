use Rattle.std.proofs.Common.{◌≡◌, ◌++◌, drop, filter, flat_map}
use Rattle.acta_table.specs.Starts.{is_listed, both_of, each_start_edge_once}
use Rattle.acta_table.specs.Dependencies.{all_kinds}
use Rattle.acta_table.proofs.start_edges.in_order.Given as goal

-- the start edges so far, followed by those of the remaining kinds, are all
abbrev pub invariant-loop-kind : goal.invariant-loop-kind
invariant-loop-kind g l =
    l.listed.items ++ filter (is_listed l.edges) (flat_map both_of (drop l.kind-index all_kinds)) ≡ each_start_edge_once l.edges
