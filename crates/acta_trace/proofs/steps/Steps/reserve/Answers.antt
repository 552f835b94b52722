use Rattle.std.proofs.Common.{List, subst, sym}
use Rattle.acta_trace.specs.declared.step.Step.{Step}
use Rattle.acta_trace.specs.inside.Kept.{IsIndexed}
use Rattle.acta_trace.proofs.steps.Steps.reserve.Goals as goal

pub invariant_of-self-2 : goal.invariant_of-self-2
invariant_of-self-2 g c =
    c.reserve-2.ensures.same _ (subst (λ (steps : List (Step _)). IsIndexed steps c.self.inside.index) (sym c.reserve.ensures.items) c.self.invariant)
