use Rattle.std.specs.Prelude.{◌≡◌, take}
use Rattle.acta_table.specs.Sets.{numbers_of}
use Rattle.acta_sets.proofs.held.are_named.Given as goal

-- the same numbers so far
abbrev pub invariant-loop-i : goal.invariant-loop-i
invariant-loop-i g l = take l.i l.list ≡ take l.i (numbers_of l.named)
