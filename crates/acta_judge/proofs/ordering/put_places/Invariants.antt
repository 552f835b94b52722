use Rattle.std.proofs.Common.{◌≡◌, drop}
use Rattle.acta_judge.specs.Order.{merged}
use Rattle.acta_judge.specs.inside.Parts.{together}
use Rattle.acta_judge.proofs.ordering.put_places.Given as goal

-- adding those of the other parts from here gives those of all parts
abbrev pub invariant-loop-part : goal.invariant-loop-part
invariant-loop-part g l = merged l.ordered.keys (together (drop l.part-index l.parts)) ≡ merged l.initial.ordered.keys (together l.parts)
