use Rattle.std.proofs.Common.{◌≡◌, length, take}
use Rattle.acta_trace.proofs.steps.Steps.truncate.Given as goal

abbrev pub invariant-loop-self : goal.invariant-loop-self
invariant-loop-self g l = take l.len l.self.steps ≡ take l.len l.initial.self.steps

abbrev pub decreases-loop-self : goal.decreases-loop-self
decreases-loop-self g l = length l.self.steps
