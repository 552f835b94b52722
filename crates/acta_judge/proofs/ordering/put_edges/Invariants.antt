use Rattle.std.proofs.Common.{◌≡◌, drop, flat_map}
use Rattle.acta_judge.specs.Order.{merged}
use Rattle.acta_judge.proofs.ordering.put_edges.Given as goal

-- adding those of the other parts from here gives those of all parts
abbrev pub invariant-loop-part : goal.invariant-loop-part
invariant-loop-part g l = merged l.ordered.keys (flat_map (λ part. part.faults) (drop l.part-index l.parts)) ≡ merged l.initial.ordered.keys (flat_map (λ part. part.faults) l.parts)
