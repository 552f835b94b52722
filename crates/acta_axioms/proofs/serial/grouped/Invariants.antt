use Rattle.std.proofs.Common.{take}
use Rattle.acta_axioms.proofs.Grouping.{AreGrouped}
use Rattle.acta_axioms.proofs.serial.grouped.Given as goal

-- the operations so far
abbrev pub invariant-loop-k : goal.invariant-loop-k
invariant-loop-k g l = AreGrouped (take l.k-index l.kept) l.number l.groups
