use Rattle.std.proofs.Common.{subst}
use Rattle.std.specs.Prelude.{IfErr, IfOk}
use Rattle.acta_explore.specs.Ends.{AreAllEndsFrom, CountsPoints, IsOver}
use Rattle.acta_explore.specs.Points.{Point}
use Rattle.acta_explore.proofs.search.explore.Goals as goal

pub returns-clause-all : goal.returns-clause-all
returns-clause-all g c =
    subst (λ (root : Point _). IfOk c.explore_from.result (λ explored. AreAllEndsFrom c.args.lines.now root explored.ends)) c.in_ok-start.ensures c.explore_from.ensures.all

pub returns-clause-points : goal.returns-clause-points
returns-clause-points g c =
    subst (λ (root : Point _). IfOk c.explore_from.result (λ explored. CountsPoints c.args.lines.now root explored.points)) c.in_ok-start.ensures c.explore_from.ensures.points

pub returns-clause-too_many : goal.returns-clause-too_many
returns-clause-too_many g c =
    subst (λ (root : Point _). IfErr c.explore_from.result (λ error. IsOver c.args.lines.now root c.args.most error)) c.in_ok-start.ensures c.explore_from.ensures.too_many
