use Rattle.std.proofs.Common.{◌≡◌, ◌++◌, drop}
use Rattle.acta_explore.specs.Equivalence.{by_line}
use Rattle.acta_explore.specs.Programs.{operated_lines}
use Rattle.acta_explore.proofs.key.line_ops.Given as goal

-- the operations so far, and the rest
abbrev pub invariant-loop-step : goal.invariant-loop-step
invariant-loop-step g l = l.ops.items ++ by_line (operated_lines (drop l.step-index l.steps)) (drop l.number l.items) ≡ by_line (operated_lines l.steps) l.items
