use Rattle.std.proofs.Common.{◌∙◌, sym, ap, List, Option}
use Rattle.std.proofs.lemmas.Result.{IfOk-weaker}
use Rattle.acta_explore.specs.declared.point.Done.{Done}
use Rattle.acta_explore.specs.Programs.{next_from}
use Rattle.acta_explore.proofs.Stepping.{next-new}
use Rattle.acta_explore.proofs.Taking.{no-line, no-event, the-event}
use Rattle.acta_explore.proofs.point.Point.stepped.Goals as goal

pub returns-in_default : goal.returns-in_default
returns-in_default g c = no-line c.args.plan.now c.args.self.now c.args.turn c.args.done.now c.requires (sym c.next_line.ensures ∙ c.in_default.is)

pub returns-in-Some-2 : goal.returns-in-Some-2
returns-in-Some-2 g c =
    IfOk-weaker c.try_event.result _ _ (λ next h. h ∙ the-event c.args.plan.now c.args.self.now c.args.turn c.args.done.now c.in-Some.line c.in-Some-2.event c.requires (sym c.next_line.ensures ∙ c.in-Some.is)
    (sym c.in_ok-event.ensures ∙ c.in-Some-2.is)) c.try_event.ensures

pub returns-in-None : goal.returns-in-None
returns-in-None g c =
    no-event c.args.plan.now c.args.self.now c.args.turn c.args.done.now c.in-Some.line c.requires (sym c.next_line.ensures ∙ c.in-Some.is)
    (sym c.in_ok-event.ensures ∙ c.in-None.is)

pub try_event-requires : goal.try_event-requires
try_event-requires g c =
    next-new c.args.plan.now c.args.self.now.steps c.args.turn.seat c.in-Some.line
    (ap (λ (done : List (Option Done)). next_from 0 c.args.plan.now done c.args.turn.seat) (sym c.requires) ∙ (sym c.next_line.ensures ∙ c.in-Some.is))
