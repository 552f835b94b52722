use Rattle.std.proofs.Common.{◌≡◌}
use Rattle.acta_judge.specs.inside.Parts.{advanced}
use Rattle.acta_judge.proofs.parts.skip.Given as goal

-- the walk has gone as many items further as there were turns
abbrev pub invariant-loop : goal.invariant-loop
invariant-loop g l = l.walk ≡ advanced l.counter l.initial.walk
