use Rattle.std.proofs.Common.{◌+◌, ◌++◌, ap, ◌∙◌, sym, drop, List, ℕ}
use Rattle.std.specs.List.{list_any}
use Rattle.acta_table.specs.Numbered.{numbers_from}
use Rattle.acta_table.specs.declared.event.Event.{Event}
use Rattle.acta_explore.specs.Programs.{has_operation, is_operation}
use Rattle.acta_explore.proofs.Looping.{numbers-here}
use Rattle.acta_explore.proofs.plan.operation_lines.Goals as goal

pub loop-line-preserved : goal.loop-line-preserved
loop-line-preserved g c =
    let i = c.loop-line.line in
    let passes = ap (λ (es : List (Event _)). list_any is_operation es) (sym c.as_slice.ensures) ∙ (sym c.has_operation.ensures ∙ c.if-not-has_operation.false) in
    ap (λ (ps : List ℕ). ps ++ numbers_from has_operation (i + 1) (drop (i + 1) c.args.lines.now)) c.in_ok-push.ensures.items
    ∙ (sym (numbers-here has_operation c.loop-line.positions.items c.args.lines.now i c.index-lines-line.result c.loop-line-test.true passes) ∙ c.loop-line.invariant)
