use Rattle.std.proofs.Common.{◌≡◌, ◌++◌, drop}
use Rattle.acta_table.specs.Numbered.{numbers_from}
use Rattle.acta_explore.specs.Programs.{has_operation, operation_lines}
use Rattle.acta_explore.proofs.plan.operation_lines.Given as goal

-- the positions so far, and the rest
abbrev pub invariant-loop-line : goal.invariant-loop-line
invariant-loop-line g l = l.positions.items ++ numbers_from has_operation l.line (drop l.line l.lines) ≡ operation_lines l.lines
