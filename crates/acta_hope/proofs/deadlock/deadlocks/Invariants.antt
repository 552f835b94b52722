use Rattle.std.specs.List.{All}
use Rattle.acta_hope.specs.Deadlocks.{IsCycle}
use Rattle.acta_hope.proofs.deadlock.deadlocks.Given as goal

-- the deadlocks found so far are cycles
abbrev pub invariant-loop-start : goal.invariant-loop-start
invariant-loop-start g l = All (IsCycle l.waits) l.circles.items
