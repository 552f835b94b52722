use Rattle.std.specs.Prelude.{◌-◌, length}
use Rattle.acta_sets.specs.Chains.{IsMarked}
use Rattle.acta_sets.proofs.chains.Chains.further.Given as goal

abbrev pub invariant-loop-upto : goal.invariant-loop-upto
invariant-loop-upto g l = IsMarked l.self.lineage l.table l.numbers (record { upto = l.upto; lowest = l.lowest })

abbrev pub decreases-loop-upto : goal.decreases-loop-upto
decreases-loop-upto g l = length l.numbers - l.upto
