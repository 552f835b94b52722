use Rattle.std.proofs.Common.{◌∙◌, ap}
use Rattle.acta_explore.specs.Histories.{history_line}
use Rattle.acta_explore.proofs.Remembering.{lines-more}
use Rattle.acta_explore.proofs.point.history_lines.Goals as goal

pub loop-kept-preserved : goal.loop-kept-preserved
loop-kept-preserved g c =
    c.in_ok-push.ensures.items
    ∙ lines-more c.loop-kept.lines.items c.in_ok-history_line.field-0 c.history-history.result.now c.loop-kept.kept-index c.kept-item.result c.loop-kept-test.true c.loop-kept.invariant (c.in_ok-history_line.ensures ∙ ap history_line c.kept-item.is)
