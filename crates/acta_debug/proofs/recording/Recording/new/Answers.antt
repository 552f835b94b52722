use Rattle.std.proofs.Common.{subst, sym}
use Rattle.acta_debug.specs.inside.Shown.{AreFronts}
use Rattle.acta_debug.proofs.Fronts.{no-fronts}
use Rattle.acta_debug.proofs.recording.Recording.new.Goals as goal

pub invariant_of-result : goal.invariant_of-result
invariant_of-result g c =
    let machine = c.in_ok-machine.machine in
    subst (λ ts. AreFronts machine.model machine.kept ts) (sym c.new-2.ensures.items) (no-fronts machine.model machine.kept)
