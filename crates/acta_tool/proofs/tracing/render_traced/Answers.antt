use Rattle.std.proofs.Common.{◌≡◌, ◌+◌, ◌++◌, ◌∷◌, [], ◌∙◌, ℕ, List, ap, drop, sym, arith}
use Rattle.std.proofs.lemmas.List.{drop_more}
use Rattle.acta_table.specs.declared.event.Event.{Event}
use Rattle.acta_machine.specs.Table.{after, after_all, edges_in}
use Rattle.acta_machine.proofs.Runs.{model-after}
use Rattle.acta_trace.specs.Steps.{step_of}
use Rattle.acta_words.specs.Text.{text_of}
use Rattle.acta_tool.specs.Output.{formed_line}
use Rattle.acta_tool.proofs.TraceLines.{turn}
use Rattle.acta_tool.proofs.tracing.render_traced.Goals as goal

pub loop-event-preserved : goal.loop-event-preserved
loop-event-preserved g c =
    let e = c.event-item.result in
    let i : ℕ = c.loop-event.event-index in
    let events = c.args.events.now in
    let old = c.loop-event.machine in
    let new = c.take_step.new.machine in
    let line = c.line_at-line.result in
    let same : c.in_ok-copied.copied ≡ e = c.in_ok-copied.ensures in
    let moved : new ≡ after old e = c.in_ok-step.ensures.ok ∙ ap (after old) same in
    let is : c.in_ok-step.step ≡ step_of old line e = c.in_ok-step.ensures.step ∙ ap (step_of old line) same in
    let kept : new.model ≡ old.model = ap (λ s. s.model) moved ∙ model-after old e in
    let split : drop i events ≡ e ∷ drop (i + 1) events = drop_more events i e c.loop-event-test.true ∙ ap (λ x. x ∷ drop (i + 1) events) (sym c.event-item.is) in
    record {
      count = omega (arith, c.loop-event.invariant.count);
      model = kept ∙ c.loop-event.invariant.model;
      reported =
          turn c.loop-event.text.items c.render_step.new.text.items old new c.args.lines.now line c.loop-event.k i events e _
          c.loop-event-test.true c.event-item.is c.line_at-line.ensures moved
          (c.in_ok-render_step.ensures
          ∙ (λ x. c.loop-event.text.items ++ text_of (formed_line (kept x) (is x).line (is x).event (is x).answer (is x).op (is x).edges_before (edges_in (moved x)) ∷ [])))
          c.loop-event.invariant.reported;
      state = ap (λ s. after_all s (drop (i + 1) events)) moved ∙ sym (ap (after_all old) split) ∙ c.loop-event.invariant.state;
    }
