use Rattle.std.proofs.Common.{◌≡◌, ◌++◌, drop}
use Rattle.acta_next.specs.Candidates.{splits}
use Rattle.acta_next.proofs.candidates.push_splits.Given as goal

abbrev pub invariant-loop-class : goal.invariant-loop-class
invariant-loop-class g l =
    l.events.items ++ splits l.t l.u (drop l.class-index l.classes) ≡ l.initial.events.items ++ splits l.t l.u l.classes
