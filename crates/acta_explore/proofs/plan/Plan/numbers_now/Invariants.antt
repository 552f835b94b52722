use Rattle.std.proofs.Common.{◌≡◌, take, map}
use Rattle.acta_explore.specs.Programs.{number_now}
use Rattle.acta_explore.proofs.plan.Plan.numbers_now.Given as goal

-- the numbers so far
abbrev pub invariant-loop-op : goal.invariant-loop-op
invariant-loop-op g l = l.numbers.items ≡ map (number_now l.self l.steps) (take l.op-index l.ops)
