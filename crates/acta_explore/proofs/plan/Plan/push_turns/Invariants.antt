use Rattle.std.proofs.Common.{◌≡◌, ◌++◌, map}
use Rattle.std.specs.List.{range_with_len}
use Rattle.acta_explore.proofs.plan.Plan.push_turns.Given as goal

-- the turns of the alternatives so far
abbrev pub invariant-loop-alternative : goal.invariant-loop-alternative
invariant-loop-alternative g l = l.turns.items ≡ l.fn.turns.items ++ map (λ a. record { seat = l.seat; alternative = a }) (range_with_len 0 l.alternative)
