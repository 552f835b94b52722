use Rattle.std.proofs.Common.{subst}
use Rattle.acta_explore.specs.inside.Numbered.{IsNumbered}
use Rattle.acta_explore.proofs.Returning.{numbered-by-history}
use Rattle.acta_explore.proofs.point.Point.lemma_numbered.Goals as goal

pub returns : goal.returns
returns g c = subst IsNumbered c.self.view_is (numbered-by-history c.self.inside.steps.items c.self.inside.machine c.history.ensures.follows c.self.invariant.lines c.self.invariant.returns)
