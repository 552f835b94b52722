use Rattle.acta_hope.proofs.Growth.{later-after_all}
use Rattle.acta_hope.proofs.laws.later_events_take_nothing_back.Goals as goal

pub returns : goal.returns
returns g c = λ state es. later-after_all state es
