use Rattle.std.proofs.Common.{◌≡◌, drop}
use Rattle.acta_judge.specs.Order.{merged}
use Rattle.acta_judge.proofs.ordering.put_all.Given as goal

-- adding the rest from here gives all
abbrev pub invariant-loop-fault : goal.invariant-loop-fault
invariant-loop-fault g l = merged l.ordered.keys (drop l.fault-index l.faults) ≡ merged l.initial.ordered.keys l.faults
