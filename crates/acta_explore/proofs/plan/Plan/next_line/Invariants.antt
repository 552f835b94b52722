use Rattle.std.proofs.Common.{◌≡◌, drop}
use Rattle.acta_explore.specs.Programs.{next_from}
use Rattle.acta_explore.proofs.plan.Plan.next_line.Given as goal

-- the line is one of those that are left
abbrev pub invariant-loop-line : goal.invariant-loop-line
invariant-loop-line g l = next_from 0 l.self l.done l.seat ≡ next_from l.line (drop l.line l.self) (drop l.line l.done) l.seat
