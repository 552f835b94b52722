use Rattle.std.proofs.Common.{◌≡◌, ◌++◌, drop}
use Rattle.acta_explore.specs.Histories.{history_steps}
use Rattle.acta_explore.proofs.point.history_steps.Given as goal

-- the steps so far, and those of the lines that are left
abbrev pub invariant-loop-line : goal.invariant-loop-line
invariant-loop-line g l = l.steps.items ++ history_steps l.line (drop l.line l.history) ≡ history_steps 0 l.history
