use Rattle.std.proofs.Common.{◌≡◌, ◌≤◌, length, take, drop}
use Rattle.acta_table.specs.Edges.{formed}
use Rattle.acta_axioms.proofs.forming.form_each.Given as goal

-- forming the remaining edges gives the final list, and the earlier edges stay a prefix
abbrev pub invariant-loop-edge : goal.invariant-loop-edge
invariant-loop-edge g l =
    record {
      rest : formed l.edges.keys (drop l.edge-index l.more) ≡ formed l.initial.edges.keys l.more;
      front : take (length l.initial.edges.keys) l.edges.keys ≡ l.initial.edges.keys;
      long : length l.initial.edges.keys ≤ length l.edges.keys;
    }
