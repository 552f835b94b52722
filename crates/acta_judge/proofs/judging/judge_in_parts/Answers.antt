use Rattle.std.proofs.Common.{ap, ◌∙◌}
use Rattle.acta_judge.specs.Order.{is_reported}
use Rattle.acta_judge.specs.Verdicts.{all_faults, verdict}
use Rattle.acta_judge.proofs.Putting.{reported-in-order}
use Rattle.acta_judge.proofs.judging.judge_in_parts.Goals as goal

pub drop-walk-inside-requires-in_err-reported-3-room-T-Destruct : goal.drop-walk-inside-requires-in_err-reported-3-room-T-Destruct
drop-walk-inside-requires-in_err-reported-3-room-T-Destruct g c κs within =
    (g.met.A.Handle g.world.𝓛 g.world.𝓜 g.world.𝓡 ((λ s x. x), (λ x. x), (λ x. x), λ x. x)).list_fits

pub drop-walk-inside-requires-5-room-T-Destruct : goal.drop-walk-inside-requires-5-room-T-Destruct
drop-walk-inside-requires-5-room-T-Destruct g c κs within =
    (g.met.A.Handle g.world.𝓛 g.world.𝓜 g.world.𝓡 ((λ s x. x), (λ x. x), (λ x. x), λ x. x)).list_fits

pub returns-clause-verdict : goal.returns-clause-verdict
returns-clause-verdict g c = c.in_ok-reported.ensures.verdict ∙ ap (λ w. verdict w.model w.ahead) c.in_ok-walk.ensures

pub returns-clause-each : goal.returns-clause-each
unfolding verdict
returns-clause-each g c =
    λ f.
    ap (λ v. is_reported f v.faults) (c.in_ok-reported.ensures.verdict ∙ ap (λ w. verdict w.model w.ahead) c.in_ok-walk.ensures)
    ∙ reported-in-order f (all_faults c.args.model.now c.args.kept.now)
