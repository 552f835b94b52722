use Rattle.std.proofs.Common.{◌≡◌, ◌≤◌, ◌<◌, ◌+◌, length, take}
use Rattle.std.specs.List.{All}
use Rattle.acta_table.specs.Edges.{formed}
use Rattle.acta_deps.proofs.deps.Deps.lacks.Given as goal

abbrev pub invariant-loop-k : goal.invariant-loop-k
invariant-loop-k g l = record {
  counted : length (formed l.self.edges (take l.k l.more)) ≡ length l.self.edges + l.count;
  few : l.count ≤ l.k;
  start : l.start ≤ l.k;
  lower : All (λ e. e.i.0 < l.highest.0) (take l.start l.more);
  highest : All (λ e. e.i.0 ≤ l.highest.0) (take l.k l.more);
}
