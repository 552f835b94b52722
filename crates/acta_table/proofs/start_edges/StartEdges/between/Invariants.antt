use Rattle.std.proofs.Common.{◌≡◌, take}
use Rattle.acta_table.specs.Starts.{edges_between}
use Rattle.acta_table.proofs.start_edges.StartEdges.between.Given as goal

abbrev pub invariant-loop-edge : goal.invariant-loop-edge
invariant-loop-edge g l = l.between.items ≡ edges_between l.starter l.started (take l.edge-index l.self)
