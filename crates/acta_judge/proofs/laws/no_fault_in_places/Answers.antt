use Rattle.acta_judge.proofs.Spotless.{verdict-spotless}
use Rattle.acta_judge.proofs.laws.no_fault_in_places.Goals as goal

pub returns : goal.returns
returns g c = λ m h none. verdict-spotless m h none
