use Rattle.std.proofs.Common.{ap, ◌∙◌, sym, take, List, length, replicate, None, get_or}
use Rattle.std.proofs.lemmas.List.{take_more}
use Rattle.acta_script.specs.declared.programs.ProgramLine.{ProgramLine}
use Rattle.acta_explore.specs.declared.point.Step.{Step}
use Rattle.acta_explore.specs.Programs.{lines_done}
use Rattle.acta_explore.specs.inside.Noting.{noted}
use Rattle.acta_explore.proofs.Going.{lines-noted}
use Rattle.acta_explore.proofs.Looping.{none-done}
use Rattle.acta_explore.proofs.plan.Plan.lines_done.Goals as goal

pub loop-step-init : goal.loop-step-init
loop-step-init g c = c.in_ok-done.ensures ∙ (ap (λ (ls : List (ProgramLine _)). replicate (length ls) None) c.self.view_is ∙ none-done c.args.self.now)

pub loop-step-preserved : goal.loop-step-preserved
loop-step-preserved g c =
    let i = c.loop-step.step-index in
    let none : Step = record { seat = 0; line = 0; alternative = 0; ret = None } in
    c.note.ensures
    ∙ (ap (noted (get_or c.args.steps.now i none)) c.loop-step.invariant
    ∙ (sym (lines-noted c.args.self.now (take i c.args.steps.now) (get_or c.args.steps.now i none))
    ∙ ap (λ (steps : List Step). lines_done c.args.self.now steps) (sym (take_more c.args.steps.now i none c.loop-step-test.true))))
