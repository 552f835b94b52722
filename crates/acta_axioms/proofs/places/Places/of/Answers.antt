use Rattle.std.proofs.Common.{◌<◌, length, ap, arith, ◌∙◌}
use Rattle.std.proofs.lemmas.List.{drop_all}
use Rattle.acta_axioms.proofs.Walking.{goes-on}
use Rattle.acta_axioms.proofs.places.Places.of.Goals as goal

pub loop-preserved : goal.loop-preserved
loop-preserved g c =
    let within : c.loop.counter < length c.args.kept.now = omega (arith, c.loop-test.true) in
    c.in_ok-step.ensures.ok ∙ goes-on c.args.model.now c.args.kept.now c.loop.counter c.loop.walk within c.loop.invariant

pub invariant_of-result : goal.invariant_of-result
invariant_of-result g c = ap (λ w. w.ahead) c.loop.invariant ∙ drop_all c.loop.counter c.args.kept.now (omega (arith, c.loop-test.false))
