use Rattle.std.proofs.Common.{◌≡◌}
use Rattle.acta_judge.specs.inside.Parts.{advanced, faults_ahead}
use Rattle.acta_judge.proofs.parts.report_part.Given as goal

-- the walk has gone as many items further as there were turns, and the faults are those at these
abbrev pub invariant-loop : goal.invariant-loop
invariant-loop g l =
    record {
      walked : l.walk ≡ advanced l.counter l.initial.walk;
      reported : l.faults.items ≡ faults_ahead l.counter l.initial.walk;
    }
