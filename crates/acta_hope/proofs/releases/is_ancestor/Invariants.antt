use Rattle.std.proofs.Common.{◌≡◌, ◌-◌, length}
use Rattle.acta_table.specs.Ancestors.{ancestors_from}
use Rattle.acta_sets.specs.Operations.{is_among}
use Rattle.acta_machine.specs.Families.{ancestors_of}
use Rattle.acta_hope.proofs.Growth.{summary_in}
use Rattle.acta_hope.proofs.releases.is_ancestor.Given as goal

-- it is among the ancestors if it is among the rest
abbrev pub invariant-loop : goal.invariant-loop
invariant-loop g l =
    is_among (ancestors_from (length l.machine.kept - l.counter) (summary_in l.machine).parent l.next) l.fn.u ≡ is_among (ancestors_of (summary_in l.machine) l.fn.t.0) l.fn.u
