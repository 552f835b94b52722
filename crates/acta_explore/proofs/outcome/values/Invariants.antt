use Rattle.std.proofs.Common.{◌≡◌, map}
use Rattle.std.specs.Prelude.{option_map}
use Rattle.std.specs.List.{range_with_len}
use Rattle.acta_machine.specs.Table.{value_in}
use Rattle.acta_explore.specs.inside.Shown.{shown_value}
use Rattle.acta_explore.proofs.outcome.values.Given as goal

-- the values of the objects so far
abbrev pub invariant-loop-ob : goal.invariant-loop-ob
invariant-loop-ob g l = map (option_map shown_value) l.values.items ≡ map (value_in l.machine) (range_with_len 0 l.ob)
