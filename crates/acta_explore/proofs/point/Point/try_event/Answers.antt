use Rattle.std.proofs.Common.{ap, ◌∙◌, sym, subst, List, [], ◌∷◌, ◌++◌}
use Rattle.acta_machine.specs.Table.{State, answer_to, after}
use Rattle.acta_explore.specs.declared.point.Step.{Step}
use Rattle.acta_explore.specs.Points.{Point}
use Rattle.acta_explore.specs.inside.Numbered.{HaveOwnLines, ReturnAsKept}
use Rattle.acta_explore.proofs.Taking.{step_by, went-on, own-more, returns-on, stayed}
use Rattle.acta_explore.proofs.point.Point.try_event.Goals as goal

pub invariant_of-result : goal.invariant_of-result
invariant_of-result g c =
    let p = c.args.self.now in
    let step : Step = step_by c.args.turn c.args.line c.in-Admitted.ret in
    let state = c.in_ok-machine.ensures ∙ ap (λ (p : Point _). p.state) c.self.view_is in
    let steps = c.in_ok-push-in-Admitted.ensures.items ∙ ap (λ (ss : List Step). ss ++ step ∷ []) (c.in_ok-steps-in-Admitted.ensures.items ∙ (c.as_slice.ensures.value ∙ ap (λ (p : Point _). p.steps) c.self.view_is)) in
    record {
      lines = subst HaveOwnLines (sym steps) (own-more p.steps step (subst (λ (p : Point _). HaveOwnLines p.steps) c.self.view_is c.self.invariant.lines) c.requires);
      returns = returns-on p c.args.turn c.args.line c.args.event.now c.in-Admitted.place c.in-Admitted.ret c.push.new.self.items c.take.new.self
          (subst (λ (p : Point _). ReturnAsKept p.steps p.state.kept) c.self.view_is c.self.invariant.returns)
          (ap (λ (s : State _). answer_to s c.args.event.now) (sym state) ∙ (sym c.in_ok-ret.ensures.answer ∙ c.in-Admitted.is)) steps
          (c.in_ok-ret.ensures.ok ∙ ap (λ (s : State _). after s c.args.event.now) state);
    }

pub returns-in_ok-push-in-Admitted : goal.returns-in_ok-push-in-Admitted
returns-in_ok-push-in-Admitted g c =
    let state = c.in_ok-machine.ensures ∙ ap (λ (p : Point _). p.state) c.self.view_is in
    went-on c.args.self.now c.args.turn c.args.line c.args.event.now c.in-Admitted.place c.in-Admitted.ret c.push.new.self.items c.take.new.self
    (ap (λ (s : State _). answer_to s c.args.event.now) (sym state) ∙ (sym c.in_ok-ret.ensures.answer ∙ c.in-Admitted.is))
    (c.in_ok-push-in-Admitted.ensures.items ∙ ap (λ (ss : List Step). ss ++ step_by c.args.turn c.args.line c.in-Admitted.ret ∷ []) (c.in_ok-steps-in-Admitted.ensures.items ∙ (c.as_slice.ensures.value ∙ ap (λ (p : Point _). p.steps) c.self.view_is)))
    (c.in_ok-ret.ensures.ok ∙ ap (λ (s : State _). after s c.args.event.now) state)

pub returns-in-Refused : goal.returns-in-Refused
returns-in-Refused g c =
    let state = c.in_ok-machine.ensures ∙ ap (λ (p : Point _). p.state) c.self.view_is in
    stayed c.args.self.now c.args.turn c.args.line c.args.event.now c.in-Refused.rule c.in-Refused.by
    (ap (λ (s : State _). answer_to s c.args.event.now) (sym state) ∙ (sym c.in_ok-ret.ensures.answer ∙ c.in-Refused.is))
