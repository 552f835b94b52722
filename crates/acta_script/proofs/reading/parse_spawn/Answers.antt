use Rattle.std.proofs.Common.{arith}
use Rattle.std.proofs.lemmas.Grind.{common_steps}
use Rattle.acta_script.specs.Reading.{parse_spawn}
use Rattle.acta_script.proofs.reading.parse_spawn.Goals as goal

pub returns-in_err-t-clause-parsed : goal.returns-in_err-t-clause-parsed
unfolding parse_spawn
returns-in_err-t-clause-parsed g c = grind (arith, common_steps)

pub returns-in_err-c-clause-parsed : goal.returns-in_err-c-clause-parsed
unfolding parse_spawn
returns-in_err-c-clause-parsed g c = grind (arith, common_steps)

pub returns-in_err-class-clause-parsed : goal.returns-in_err-class-clause-parsed
unfolding parse_spawn
returns-in_err-class-clause-parsed g c = grind (arith, common_steps)
