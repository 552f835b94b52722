use Rattle.std.proofs.Common.{◌≤◌, ℕ, length, sym, subst}
use Rattle.acta_table.specs.declared.limits.TheConstants.{MOST_EVENTS}
use Rattle.acta_explore.specs.Points.{Point}
use Rattle.acta_explore.proofs.Taking.{as-many}
use Rattle.acta_explore.proofs.point.Point.lemma_few.Goals as goal

pub returns : goal.returns
returns g c =
    let many = as-many c.self.inside.steps.items c.self.inside.machine.kept c.self.invariant.returns in
    subst (λ (p : Point _). length p.steps ≤ MOST_EVENTS) c.self.view_is (subst (λ (n : ℕ). n ≤ MOST_EVENTS) (sym many) c.history.ensures.within)
