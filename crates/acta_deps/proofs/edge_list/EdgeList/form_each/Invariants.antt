use Rattle.std.proofs.Common.{◌≡◌, ◌≤◌, length, take, drop}
use Rattle.acta_table.specs.Edges.{formed}
use Rattle.acta_deps.proofs.edge_list.EdgeList.form_each.Given as goal

-- forming the remaining edges gives the final list, and the earlier edges stay a prefix
abbrev pub invariant-loop-edge : goal.invariant-loop-edge
invariant-loop-edge g l =
    record {
      rest : formed l.self (drop l.edge-index l.more) ≡ formed l.initial.self l.more;
      front : take (length l.initial.self) l.self ≡ l.initial.self;
      long : length l.initial.self ≤ length l.self;
    }
