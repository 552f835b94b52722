use Rattle.std.proofs.Common.{◌≡◌, map}
use Rattle.std.specs.Map.Iter.{deref}
use Rattle.acta_axioms.specs.declared.fault.Fault.{Fault}
use Rattle.acta_judge.proofs.ordering.listed.Given as goal

-- the faults that the iterator has given
abbrev pub invariant-loop-fault : goal.invariant-loop-fault
invariant-loop-fault g l = l.listed.items ≡ map (deref {X = Fault}) l.yielded
