use Rattle.std.proofs.Common.{◌≡◌, ◌++◌, drop}
use Rattle.acta_next.specs.Candidates.{begins}
use Rattle.acta_next.proofs.candidates.push_begins.Given as goal

abbrev pub invariant-loop-class : goal.invariant-loop-class
invariant-loop-class g l =
    l.events.items ++ begins l.t (drop l.class-index l.classes) ≡ l.initial.events.items ++ begins l.t l.classes
