use Rattle.std.proofs.Common.{ap, ◌∙◌}
use Rattle.acta_sets.specs.Permits.{permitted}
use Rattle.acta_sets.specs.inside.Granted.{grant_lists}
use Rattle.acta_sets.proofs.Permitting.{permitted-none}
use Rattle.acta_sets.proofs.permits.Permits.new.Goals as goal

pub returns : goal.returns
returns g c = ap (λ table. permitted (grant_lists table)) c.new.ensures.items ∙ permitted-none
