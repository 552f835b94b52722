use Rattle.std.proofs.Common.{◌≡◌, drop}
use Rattle.std.specs.List.{list_any, zip}
use Rattle.acta_explore.specs.Deadlocks.{is_left}
use Rattle.acta_explore.proofs.circle.has_left.Given as goal

-- the line is searched for among the rest
abbrev pub invariant-loop-line : goal.invariant-loop-line
invariant-loop-line g l = list_any (is_left l.is_new l.seat l.txn.0) (zip (drop l.first l.lines) (drop l.first l.done)) ≡ list_any (is_left l.is_new l.seat l.txn.0) (zip (drop l.line l.lines) (drop l.line l.done))
