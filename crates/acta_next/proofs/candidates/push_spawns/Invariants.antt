use Rattle.std.proofs.Common.{◌≡◌, ◌++◌, drop}
use Rattle.acta_next.specs.Candidates.{spawns}
use Rattle.acta_next.proofs.candidates.push_spawns.Given as goal

abbrev pub invariant-loop-class : goal.invariant-loop-class
invariant-loop-class g l =
    l.events.items ++ spawns l.t l.u (drop l.class-index l.classes) ≡ l.initial.events.items ++ spawns l.t l.u l.classes
