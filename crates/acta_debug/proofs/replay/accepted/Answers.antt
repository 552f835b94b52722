use Rattle.std.proofs.Common.{◌∙◌, ap, refl, subst}
use Rattle.acta_machine.specs.Table.{State}
use Rattle.acta_debug.specs.inside.Shown.{AreFronts}
use Rattle.acta_debug.proofs.Replaying.{no-other}
use Rattle.acta_debug.proofs.replay.accepted.Goals as goal

pub returns-in_ok-checkpoints-in-Ok-None-clause-fronts : goal.returns-in_ok-checkpoints-in-Ok-None-clause-fronts
returns-in_ok-checkpoints-in-Ok-None-clause-fronts g c =
    let checkpoints = c.in_ok-checkpoints-in-Ok-None.field-0.items in
    let kept = rw c.in-Ok-None.field-0-is at c.in-Ok-None.ensures.kept in
    let model = ap (λ (s : State g.row.A.Denot). s.model) c.in_ok-recording.ensures ∙ c.in_ok-copy.ensures in
    subst (λ m. AreFronts m c.args.items.now checkpoints) model
    (subst (λ (s : State g.row.A.Denot). AreFronts s.model s.kept checkpoints) kept c.in_ok-checkpoints-in-Ok-None.ensures)

pub returns-in-Ok-Some-clause-accepted : goal.returns-in-Ok-Some-clause-accepted
returns-in-Ok-Some-clause-accepted g c =
    let first = rw c.in-Ok-Some.field-0-is at c.in-Ok-Some.ensures.other in
    let model = ap (λ (s : State g.row.A.Denot). s.model) c.in_ok-recording.ensures ∙ c.in_ok-copy.ensures in
    λ whole. absurd (no-other c.in-Ok-Some.place model refl first whole)
