-- The numbers and names of the rules, and the numbers of model faults. Lower numbers are checked first.
use Rattle.std.specs.Prelude.{ℕ, List, codes}
use Rattle.acta_table.specs.declared.answer.Rule.{Rule}
use Rattle.acta_table.specs.declared.answer.Rule.TheVariants.{Full, BadNumber, BadClass, BadObject, BadOperation, SameTransaction, NotInProgress, AlreadyBegun, NotInModel, PartnerNotInProgress, NotResponsible, PartialDelegation, BadSet, Conflict, FormTooLate, EdgesFull, BeginDep, SerialDep, BeginOnCommit, BeginOnAbort, TerminationDep, OwesAbort, OwesCommit, CommitOrder, WeakBegin, Unpayable, Clash, NoHeir}
use Rattle.acta_table.specs.declared.model.ModelFault.{ModelFault}
use Rattle.acta_table.specs.declared.model.ModelFault.TheVariants as fault

abbrev pub rule_number : Rule → ℕ
rule_number Full = 1
rule_number BadNumber = 2
rule_number BadClass = 3
rule_number BadObject = 4
rule_number BadOperation = 5
rule_number SameTransaction = 6
rule_number NotInProgress = 7
rule_number AlreadyBegun = 8
rule_number NotInModel = 9
rule_number PartnerNotInProgress = 10
rule_number NotResponsible = 11
rule_number PartialDelegation = 12
rule_number BadSet = 13
rule_number Conflict = 14
rule_number FormTooLate = 15
rule_number EdgesFull = 16
rule_number BeginDep = 17
rule_number SerialDep = 18
rule_number BeginOnCommit = 19
rule_number BeginOnAbort = 20
rule_number TerminationDep = 21
rule_number OwesAbort = 22
rule_number OwesCommit = 23
rule_number CommitOrder = 24
rule_number WeakBegin = 25
rule_number Unpayable = 26
rule_number Clash = 27
rule_number NoHeir = 28

abbrev pub rule_name : Rule → List ℕ
rule_name Full = codes "Full"
rule_name BadNumber = codes "BadNumber"
rule_name BadClass = codes "BadClass"
rule_name BadObject = codes "BadObject"
rule_name BadOperation = codes "BadOperation"
rule_name SameTransaction = codes "SameTransaction"
rule_name NotInProgress = codes "NotInProgress"
rule_name AlreadyBegun = codes "AlreadyBegun"
rule_name NotInModel = codes "NotInModel"
rule_name PartnerNotInProgress = codes "PartnerNotInProgress"
rule_name NotResponsible = codes "NotResponsible"
rule_name PartialDelegation = codes "PartialDelegation"
rule_name BadSet = codes "BadSet"
rule_name Conflict = codes "Conflict"
rule_name FormTooLate = codes "FormTooLate"
rule_name EdgesFull = codes "EdgesFull"
rule_name BeginDep = codes "BeginDep"
rule_name SerialDep = codes "SerialDep"
rule_name BeginOnCommit = codes "BeginOnCommit"
rule_name BeginOnAbort = codes "BeginOnAbort"
rule_name TerminationDep = codes "TerminationDep"
rule_name OwesAbort = codes "OwesAbort"
rule_name OwesCommit = codes "OwesCommit"
rule_name CommitOrder = codes "CommitOrder"
rule_name WeakBegin = codes "WeakBegin"
rule_name Unpayable = codes "Unpayable"
rule_name Clash = codes "Clash"
rule_name NoHeir = codes "NoHeir"

abbrev pub model_fault_number : ModelFault → ℕ
model_fault_number fault.NoClass = 1
model_fault_number fault.TooManyClasses = 2
model_fault_number fault.TooManyObjects = 3
model_fault_number fault.DuplicateName = 4
model_fault_number fault.BadName = 5
model_fault_number fault.BeginKindAtStart = 6
model_fault_number fault.HeirWithoutSpawn = 7
model_fault_number fault.BadPolicyKind = 8
