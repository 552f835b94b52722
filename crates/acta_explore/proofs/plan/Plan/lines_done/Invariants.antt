use Rattle.std.proofs.Common.{◌≡◌, take}
use Rattle.acta_explore.specs.Programs.{lines_done}
use Rattle.acta_explore.proofs.plan.Plan.lines_done.Given as goal

-- what the steps so far did
abbrev pub invariant-loop-step : goal.invariant-loop-step
invariant-loop-step g l = l.done.items ≡ lines_done l.self (take l.step-index l.steps)
