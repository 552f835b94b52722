use Rattle.acta_values.proofs.Trails.{ascending_push}
use Rattle.acta_values.proofs.trail.Trail.push.Goals as goal

pub invariant_of-self-2 : goal.invariant_of-self-2
invariant_of-self-2 g c = rw c.in_ok-push.ensures.items (ascending_push _ _ c.self.invariant (rw c.self.view_is c.requires))
