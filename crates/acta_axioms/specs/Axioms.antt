-- The number of each axiom, which orders faults.
use Rattle.std.specs.Prelude.{ℕ, ◌+◌}
use Rattle.acta_table.specs.Dependencies.{code_of}
use Rattle.acta_axioms.specs.declared.fault.Axiom.{Axiom}
use Rattle.acta_axioms.specs.declared.fault.Axiom.TheVariants.{BegunOnce, EndedAfterBegun, EndedOnce, OperatesInProgress, FormOfEvent, Allowed, PartiesInProgress, Responsible, HandsWhole, Conflict, Return, Heir, FormedInTime, Dependency, Clash}

-- 1 to 13 for axioms on single places, 21 plus the kind's code for dependencies, 33 for debts
unfoldable pub axiom_number : Axiom → ℕ
axiom_number BegunOnce = 1
axiom_number EndedAfterBegun = 2
axiom_number EndedOnce = 3
axiom_number OperatesInProgress = 4
axiom_number FormOfEvent = 5
axiom_number Allowed = 6
axiom_number PartiesInProgress = 7
axiom_number Responsible = 8
axiom_number HandsWhole = 9
axiom_number Conflict = 10
axiom_number Return = 11
axiom_number Heir = 12
axiom_number FormedInTime = 13
axiom_number (Dependency kind) = 21 + code_of kind
axiom_number Clash = 33
