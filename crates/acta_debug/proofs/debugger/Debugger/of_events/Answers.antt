use Rattle.std.proofs.Common.{◌≡◌, ◌∙◌, ap, arith, length, subst, sym}
use Rattle.acta_machine.specs.Table.{State, after_all, fresh, run_state}
use Rattle.acta_debug.specs.Histories.{IsHistory}
use Rattle.acta_debug.specs.Sessions.{opened}
use Rattle.acta_debug.specs.inside.Shown.{AreFronts}
use Rattle.acta_debug.proofs.Replaying.{runs, runs-model}
use Rattle.acta_debug.proofs.debugger.Debugger.of_events.Given.{Over}
use Rattle.acta_debug.proofs.debugger.Debugger.of_events.Goals as goal

-- the machine has run the events
ran : (g : Over) (c : goal.In_ok-checkpoints g) → c.take_all.new.self ≡ run_state c.args.model c.args.events.now
ran g c = c.in_ok-take_all.ensures ∙ ap (λ s. after_all s c.args.events.now) (c.in_ok-recording.ensures ∙ ap fresh c.in_ok-copy.ensures)

-- and the history is what it has kept
items : (g : Over) (c : goal.In_ok-checkpoints g) → c.in_ok-history.history.items ≡ c.take_all.new.self.kept
items g c = c.in_ok-history.ensures ∙ c.history.ensures.history ∙ ap (λ (s : State g.row.A.Denot). s.kept) c.machine.ensures

pub at_start-requires-clause-whole : goal.at_start-requires-clause-whole
at_start-requires-clause-whole g c =
    subst (λ h. IsHistory c.args.model h) (sym (items g c ∙ ap (λ (s : State g.row.A.Denot). s.kept) (ran g c))) (runs c.args.model c.args.events.now)

pub at_start-requires-clause-few : goal.at_start-requires-clause-few
at_start-requires-clause-few g c = let size = ap length (c.in_ok-history.ensures ∙ c.history.ensures.history) in omega (arith, size, c.history.ensures.within)

pub at_start-requires-clause-fronts : goal.at_start-requires-clause-fronts
at_start-requires-clause-fronts g c =
    let model = ap (λ (s : State g.row.A.Denot). s.model) (ran g c) ∙ runs-model c.args.model c.args.events.now in
    let checkpoints = c.in_ok-checkpoints.checkpoints.items in
    subst (λ m. AreFronts m c.in_ok-history.history.items checkpoints) model
    (subst (λ h. AreFronts c.take_all.new.self.model h checkpoints) (sym (items g c)) c.in_ok-checkpoints.ensures)

pub returns : goal.returns
returns g c =
    let ran = c.in_ok-take_all.ensures ∙ ap (λ s. after_all s c.args.events.now) (c.in_ok-recording.ensures ∙ ap fresh c.in_ok-copy.ensures) in
    let kept = c.in_ok-history.ensures ∙ c.history.ensures.history ∙ ap (λ (s : State g.row.A.Denot). s.kept) (c.machine.ensures ∙ ran) in
    c.in_ok-at_start.ensures ∙ ap (opened c.args.model) kept
