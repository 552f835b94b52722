use Rattle.std.proofs.Common.{◌∷◌, [], ◌++◌, map, get_or, take, sym, ap, ◌∙◌}
use Rattle.std.proofs.lemmas.List.{append_assoc, take_more}
use Rattle.acta_explore.specs.Histories.{history_line, programs_after}
use Rattle.acta_explore.specs.Programs.{Programs}
use Rattle.acta_programs.proofs.from.lines_after.Goals as goal

pub loop-line-preserved : goal.loop-line-preserved
loop-line-preserved g c =
    let state = c.args.machine.now in
    let lines = c.args.lines.now in
    let n = c.loop-line.line-index in
    let line = c.line-item.result in
    let copied = c.in_ok-copy_line.ensures ∙ c.line-item.is in
    c.in_ok-push.ensures.items
    ∙ ((λ i. c.loop-line.invariant i ++ copied i ∷ [])
    ∙ (append_assoc (map history_line state.kept) (take n lines) (get_or lines n line ∷ [])
    ∙ ap (λ (done : Programs _). programs_after state done) (sym (take_more lines n line c.loop-line-test.true))))
