use Rattle.std.proofs.Common.{◌≡◌, ◌++◌, drop, filter, map}
use Rattle.acta_table.specs.Policies.{forms, edge_on}
use Rattle.acta_table.proofs.policy.Policy.push_edges.Given as goal

-- the edges so far, followed by those of the remaining kinds, are all
abbrev pub invariant-loop-kind : goal.invariant-loop-kind
invariant-loop-kind g l =
    l.edges.items ++ map (edge_on l.t l.u.0) (filter (forms l.self) (drop l.kind-index l.kinds)) ≡ l.initial.edges.items ++ map (edge_on l.t l.u.0) (filter (forms l.self) l.kinds)
