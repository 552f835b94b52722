use Rattle.std.proofs.Common.{◌≡◌, map, length}
use Rattle.acta_table.specs.Faults.{has_twice}
use Rattle.acta_table.proofs.model.have_name_twice.Given as goal

-- what is left has one twice where all have
abbrev pub invariant-loop-rest : goal.invariant-loop-rest
invariant-loop-rest g l =
    has_twice (map g.T.Named.name_of l.rest) ≡ has_twice (map g.T.Named.name_of l.items)

abbrev pub decreases-loop-rest : goal.decreases-loop-rest
decreases-loop-rest g l = length l.rest
