use Rattle.std.proofs.Common.{◌≤◌, take}
use Rattle.acta_order.proofs.Gathering.{AreGathered}
use Rattle.acta_order.proofs.groups.gathered.Given as goal

-- the operations so far
abbrev pub invariant-loop-k : goal.invariant-loop-k
invariant-loop-k g l = record {
  gathered : AreGathered l.walk.model l.kept (take l.k-index l.kept) l.number l.groups;
  low : l.number ≤ l.k-index;
}
