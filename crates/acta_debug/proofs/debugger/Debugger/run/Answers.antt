use Rattle.std.proofs.Common.{◌∙◌, ap, rules, subst, sym}
use Rattle.acta_machine.specs.Table.{State}
use Rattle.acta_debug.specs.inside.Shown.{AreFronts}
use Rattle.acta_debug.proofs.Stopping.{stop-is}
use Rattle.acta_debug.proofs.debugger.Debugger.run.Goals as goal

pub returns-in-Ok-clause-first : goal.returns-in-Ok-clause-first
returns-in-Ok-clause-first g c =
    stop-is c.self.inside.machine c.in_ok-machine.machine c.self.inside.history.items c.as_slice-history.result.now c.self.inside.at c.self.inside.breaks.items c.deref.result.now
    c.args.self.now c.in-Ok.stop c.self.invariant.stands c.self.view_is c.in_ok-machine.ensures c.as_slice-history.ensures.value c.deref.ensures.value c.in-Ok.ensures.stop

pub run_on-requires : goal.run_on-requires
run_on-requires g c = search rules

pub invariant_of-self : goal.invariant_of-self
invariant_of-self g c =
    let items = c.self.inside.history.items in
    let checkpoints = c.self.inside.checkpoints.items in
    let model = ap (λ (s : State g.row.A.Denot). s.model) c.replace.ensures.after ∙ c.in-Ok.ensures.model ∙ ap (λ (s : State g.row.A.Denot). s.model) c.in_ok-machine.ensures in
    record {
      stands = search rules;
      fronts = subst (λ m. AreFronts m items checkpoints) (sym model) c.self.invariant.fronts;
    }
