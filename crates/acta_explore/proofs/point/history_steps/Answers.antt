use Rattle.std.proofs.Common.{◌+◌, List, ◌++◌, drop, sym, ap, ◌∙◌}
use Rattle.acta_explore.specs.declared.point.Step.{Step}
use Rattle.acta_explore.specs.Histories.{history_steps}
use Rattle.acta_explore.proofs.Remembering.{steps-more}
use Rattle.acta_explore.proofs.point.history_steps.Goals as goal

pub loop-line-preserved : goal.loop-line-preserved
loop-line-preserved g c =
    let n = c.loop-line.line in
    ap (λ (steps : List Step). steps ++ history_steps (n + 1) (drop (n + 1) c.args.history.now)) c.in_ok-push.ensures.items
    ∙ (sym (steps-more c.loop-line.steps.items c.args.history.now n c.index-history-line.result c.loop-line-test.true) ∙ c.loop-line.invariant)
