use Rattle.acta_debug.proofs.Fronts.{fronts-after}
use Rattle.acta_debug.proofs.recording.Recording.take.Goals as goal

pub invariant_of-self-2 : goal.invariant_of-self-2
invariant_of-self-2 g c =
    fronts-after c.self.inside.machine c.take.new.self c.args.event.now c.self.inside.checkpoints.items c.in_ok-answer.ensures.ok c.self.invariant
