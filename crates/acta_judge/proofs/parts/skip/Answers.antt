use Rattle.std.proofs.Common.{◌≡◌, ap, arith, ◌∙◌}
use Rattle.acta_axioms.specs.Walks.{stepped}
use Rattle.acta_judge.specs.inside.Parts.{advanced}
use Rattle.acta_judge.proofs.Advancing.{advanced-add, advanced-none, stepped-advanced}
use Rattle.acta_judge.proofs.parts.skip.Goals as goal

pub loop-init : goal.loop-init
loop-init g c = advanced-none c.args.walk.now

pub loop-preserved : goal.loop-preserved
loop-preserved g c =
    let w = c.args.walk.now in
    c.in_ok-step.ensures.ok ∙ ap stepped c.loop.invariant ∙ stepped-advanced (advanced c.loop.counter w) ∙ advanced-add c.loop.counter 1 w

pub returns : goal.returns
returns g c =
    let turns : c.loop.counter ≡ c.args.size = omega (arith, c.loop-test.false, c.loop.auto.counter-end) in
    c.loop.invariant ∙ ap (λ n. advanced n c.args.walk.now) turns
