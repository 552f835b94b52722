use Rattle.std.proofs.Common.{arith}
use Rattle.std.proofs.lemmas.Grind.{common_steps}
use Rattle.acta_script.specs.Reading.{parse_delegate}
use Rattle.acta_script.proofs.reading.parse_delegate.Goals as goal

pub returns-in_err-t-clause-fault : goal.returns-in_err-t-clause-fault
unfolding parse_delegate
returns-in_err-t-clause-fault g c = grind (arith, common_steps)

pub returns-in_err-u-clause-fault : goal.returns-in_err-u-clause-fault
unfolding parse_delegate
returns-in_err-u-clause-fault g c = grind (arith, common_steps)

pub returns-in_err-ops-clause-fault : goal.returns-in_err-ops-clause-fault
unfolding parse_delegate
returns-in_err-ops-clause-fault g c = grind (arith, common_steps)
