use Rattle.std.proofs.Common.{◌≡◌, ◌-◌, ◌++◌, length}
use Rattle.acta_table.specs.Ancestors.{ancestors_from}
use Rattle.acta_machine.specs.Families.{ancestors_of}
use Rattle.acta_machine.specs.inside.Abstraction.{abstraction}
use Rattle.acta_machine.proofs.machine_state.MachineState.exempt.Given as goal

-- what is listed and what is left of the line make the line
abbrev pub invariant-loop : goal.invariant-loop
invariant-loop g l =
    l.exempt.items ++ ancestors_from (length l.self.kept.items - l.counter) (abstraction l.self).parent l.next ≡ ancestors_of (abstraction l.self) l.fn.t.0
