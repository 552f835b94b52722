use Rattle.acta_locked.proofs.Judging.{run-verdict}
use Rattle.acta_locked.proofs.book.runs_are_faultless.Goals as goal

pub returns : goal.returns
returns g c = λ m faultless es. run-verdict m es faultless
