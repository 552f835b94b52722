use Rattle.std.proofs.Common.{◌≡◌, ◌++◌, flat_map}
use Rattle.acta_judge.specs.inside.Parts.{at_end, faults_ahead, faults_left}
use Rattle.acta_judge.proofs.parts.cut.Given as goal

-- the faults of the parts so far, with those that the walk still has ahead, are all
abbrev pub invariant-loop : goal.invariant-loop
invariant-loop g l =
    record {
      whole : at_end l.walk ≡ at_end l.initial.walk;
      reported : flat_map (faults_ahead l.size) l.parts.items ++ faults_left l.walk ≡ faults_left l.initial.walk;
    }
