use Rattle.std.proofs.Common.{subst, sym}
use Rattle.acta_debug.specs.inside.Shown.{AreFronts, IsFront}
use Rattle.acta_debug.proofs.Fronts.{fronts-more, whole-front}
use Rattle.acta_debug.proofs.recording.Recording.mark.Goals as goal

pub invariant_of-self : goal.invariant_of-self
invariant_of-self g c =
    let machine = c.self.inside.machine in
    subst (λ ts. AreFronts machine.model machine.kept ts) (sym c.in_err-push.ensures.items) c.self.invariant

pub invariant_of-self-then-taken-self : goal.invariant_of-self-then-taken-self
invariant_of-self-then-taken-self g c =
    let machine = c.self.inside.machine in
    let same = subst (λ t. IsFront machine.model machine.kept t) (sym c.in_ok-checkpoint.ensures) (whole-front machine) in
    subst (λ ts. AreFronts machine.model machine.kept ts) (sym c.in_ok-push.ensures.items)
    (fronts-more machine.model machine.kept c.self.inside.checkpoints.items c.in_ok-checkpoint.checkpoint c.self.invariant same)
