use Rattle.std.proofs.Common.{◌+◌, drop}
use Rattle.acta_locked.specs.Drives.{AreParts}
use Rattle.acta_locked.proofs.run.are_settled.Given as goal

-- if the rest are parts, all are
abbrev pub invariant-loop-k : goal.invariant-loop-k
invariant-loop-k g l =
    AreParts l.book (l.k + 1) (drop l.k l.scripts) (drop l.k l.reports) → AreParts l.book 1 l.scripts l.reports
