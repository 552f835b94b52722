use Rattle.std.proofs.Common.{◌+◌, ℕ, ap, length, subst, sym, ◌∙◌}
use Rattle.acta_table.specs.declared.limits.TheConstants.{MOST_EDGES}
use Rattle.acta_trace.specs.declared.step.Step.{Step}
use Rattle.acta_trace.specs.Steps.{Fits, FitsEvent}
use Rattle.acta_trace.proofs.Taking.{fits}
use Rattle.acta_trace.proofs.trace.Trace.take.Goals as goal

pub push_reserved-requires : goal.push_reserved-requires
push_reserved-requires g c =
    let room = c.reserve.new.self.room in
    let state = c.self.inside.machine in
    subst (λ (step : Step _). Fits room step) (sym c.in_ok-step.ensures.step)
    (fits room state c.args.line c.args.event
    (subst (λ (n : ℕ). FitsEvent room c.args.event (n + 1) MOST_EDGES) (ap length c.operations.ensures.operations) c.in_ok-reserve.ensures.room)
    c.in_ok-step.ensures.few)
