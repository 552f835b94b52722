use Rattle.std.specs.Prelude.{take}
use Rattle.acta_sets.specs.Chains.{ArePassed}
use Rattle.acta_sets.proofs.chains.Chains.are_passed.Given as goal

abbrev pub invariant-loop-number : goal.invariant-loop-number
invariant-loop-number g l = ArePassed l.self.lineage l.t l.table (take l.number-index l.numbers)
