use Rattle.std.proofs.Common.{◌≡◌, take}
use Rattle.acta_order.specs.Commits.{AreCommits}
use Rattle.acta_order.proofs.order.committed.Given as goal

-- the transactions that commit so far
abbrev pub invariant-loop-k : goal.invariant-loop-k
invariant-loop-k g l = record {
  commits : AreCommits (take l.k-index l.kept) l.path.stack l.earlier.counts;
  size : l.path.size ≡ 65536;
  orders : l.earlier.orders ≡ l.initial.earlier.orders;
}
