use Rattle.std.proofs.Common.{◌<◌, length, arith, ◌∙◌}
use Rattle.std.proofs.lemmas.List.{take_all, drop_all}
use Rattle.acta_order.proofs.Walking.{goes-on}
use Rattle.acta_order.proofs.groups.walked.Goals as goal

pub loop-preserved : goal.loop-preserved
loop-preserved g c =
    let within : c.loop.counter < length c.args.kept.now = omega (arith, c.loop-test.true) in
    c.in_ok-step.ensures.ok ∙ goes-on c.args.model.now c.args.kept.now c.loop.counter c.loop.walk within c.loop.invariant

pub returns : goal.returns
returns g c =
    let kept = c.args.kept.now in
    c.loop.invariant ∙ (λ i. record { model = c.args.model.now; front = take_all c.loop.counter kept (omega (arith, c.loop-test.false)) i; ahead = drop_all c.loop.counter kept (omega (arith, c.loop-test.false)) i })
