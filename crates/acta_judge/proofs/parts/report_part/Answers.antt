use Rattle.std.proofs.Common.{◌≡◌, ◌++◌, ap, arith, ◌∙◌}
use Rattle.acta_judge.specs.inside.Parts.{advanced, faults_ahead}
use Rattle.acta_judge.proofs.Advancing.{advanced-add, advanced-none, faults-add}
use Rattle.acta_judge.proofs.parts.report_part.Goals as goal

pub loop-init : goal.loop-init
loop-init g c =
    record {
      walked = advanced-none c.args.walk.now;
      reported = c.new-faults.ensures.items;
    }

pub loop-preserved : goal.loop-preserved
loop-preserved g c =
    let w = c.args.walk.now in
    let n = c.loop.counter in
    let inv = c.loop.invariant in
    record {
      walked = c.in_ok-report_next.ensures.walked ∙ ap (advanced 1) inv.walked ∙ advanced-add n 1 w;
      reported = c.in_ok-report_next.ensures.reported ∙ (λ i. inv.reported i ++ faults_ahead 1 (inv.walked i)) ∙ faults-add n 1 w;
    }

pub returns-clause-reported : goal.returns-clause-reported
returns-clause-reported g c =
    let turns : c.loop.counter ≡ c.args.size = omega (arith, c.loop-test.false, c.loop.auto.counter-end) in
    c.of.ensures ∙ c.loop.invariant.reported ∙ ap (λ n. faults_ahead n c.args.walk.now) turns

pub returns-clause-walked : goal.returns-clause-walked
returns-clause-walked g c =
    let turns : c.loop.counter ≡ c.args.size = omega (arith, c.loop-test.false, c.loop.auto.counter-end) in
    c.loop.invariant.walked ∙ ap (λ n. advanced n c.args.walk.now) turns
