use Rattle.std.proofs.Common.{◌≡◌}
use Rattle.std.specs.List.{filter_map, range_with_len}
use Rattle.acta_explore.specs.Outcomes.{rule_at}
use Rattle.acta_explore.proofs.outcome.rules_at.Given as goal

-- the rules of the alternatives so far
abbrev pub invariant-loop-alternative : goal.invariant-loop-alternative
invariant-loop-alternative g l = l.rules.items ≡ filter_map (rule_at l.plan l.point l.line) (range_with_len 0 l.alternative)
