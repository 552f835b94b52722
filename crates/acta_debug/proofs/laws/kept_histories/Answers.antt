use Rattle.acta_debug.proofs.Replaying.{fronts, runs}
use Rattle.acta_debug.proofs.laws.kept_histories.Goals as goal

pub returns-clause-runs : goal.returns-clause-runs
returns-clause-runs g c = λ m es. runs m es

pub returns-clause-fronts : goal.returns-clause-fronts
returns-clause-fronts g c = λ m h whole n. fronts m h whole n
