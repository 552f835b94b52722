use Rattle.std.proofs.Common.{subst, sym}
use Rattle.acta_machine.specs.Table.{State}
use Rattle.acta_debug.specs.inside.Shown.{AreFronts}
use Rattle.acta_debug.proofs.Fronts.{fronts-more, whole-front}
use Rattle.acta_debug.proofs.recording.Recording.checkpoints.Goals as goal

pub returns : goal.returns
returns g c =
    let machine = c.self.inside.machine in
    let all = fronts-more machine.model machine.kept c.self.inside.checkpoints.items machine c.self.invariant (whole-front machine) in
    subst (λ (s : State g.row.A.Denot). AreFronts s.model s.kept c.push.new.self.items) c.self.view_is
    (subst (λ ts. AreFronts machine.model machine.kept ts) (sym c.in_ok-push.ensures.items) all)
