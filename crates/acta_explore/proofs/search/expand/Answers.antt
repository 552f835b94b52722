use Rattle.std.proofs.Common.{ap, ◌∙◌, sym, List}
use Rattle.acta_explore.specs.declared.point.Step.{Step}
use Rattle.acta_explore.specs.Programs.{lines_done}
use Rattle.acta_explore.specs.inside.Merging.{points_of}
use Rattle.acta_explore.specs.inside.Turns.{turns_at}
use Rattle.acta_explore.proofs.Expanding.{expanded-none, expanded-some, expanded-all}
use Rattle.acta_explore.proofs.search.expand.Goals as goal

pub loop-turn-preserved-in_default : goal.loop-turn-preserved-in_default
loop-turn-preserved-in_default g c =
    expanded-none c.args.plan.now c.args.point.now (points_of c.args.next.now.entries) c.deref-turn-items.result.now c.loop-turn.turn-index _ c.loop-turn.next.entries c.loop-turn.has_step c.loop-turn-test.true (sym c.in_ok-further.ensures ∙ c.in_default.is) c.loop-turn.invariant

pub loop-turn-preserved : goal.loop-turn-preserved
loop-turn-preserved g c =
    expanded-some c.args.plan.now c.args.point.now (points_of c.args.next.now.entries) c.deref-turn-items.result.now c.loop-turn.turn-index _ c.in-Some.further c.loop-turn.next.entries c.put.new.level.entries c.loop-turn.has_step c.loop-turn-test.true
    (sym c.in_ok-further.ensures ∙ c.in-Some.is) c.in_ok-put.ensures.keyed c.in_ok-put.ensures.put c.loop-turn.invariant

pub returns-clause-merged : goal.returns-clause-merged
returns-clause-merged g c =
    let done = c.as_slice.ensures.value ∙ (c.in_ok-done.ensures ∙ ap (λ (ss : List Step). lines_done c.args.plan.now ss) c.steps.ensures) in
    let turns = c.deref-turn-items.ensures.value ∙ (c.in_ok-turns.ensures ∙ ap (turns_at c.args.plan.now) done) in
    (expanded-all c.args.plan.now c.args.point.now (points_of c.args.next.now.entries) c.deref-turn-items.result.now c.loop-turn.turn-index c.loop-turn.next.entries c.loop-turn.has_step c.loop-turn-test.false turns c.loop-turn.invariant).0

pub returns-clause-has_step : goal.returns-clause-has_step
returns-clause-has_step g c =
    let done = c.as_slice.ensures.value ∙ (c.in_ok-done.ensures ∙ ap (λ (ss : List Step). lines_done c.args.plan.now ss) c.steps.ensures) in
    let turns = c.deref-turn-items.ensures.value ∙ (c.in_ok-turns.ensures ∙ ap (turns_at c.args.plan.now) done) in
    (expanded-all c.args.plan.now c.args.point.now (points_of c.args.next.now.entries) c.deref-turn-items.result.now c.loop-turn.turn-index c.loop-turn.next.entries c.loop-turn.has_step c.loop-turn-test.false turns c.loop-turn.invariant).1
