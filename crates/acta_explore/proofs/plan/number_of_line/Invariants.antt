use Rattle.std.proofs.Common.{◌≡◌, ◌≤◌, ◌+◌, ◌==◌, drop}
use Rattle.std.specs.List.{position_from}
use Rattle.acta_explore.specs.Programs.{number_of_line, operated_lines}
use Rattle.acta_explore.proofs.plan.number_of_line.Given as goal

-- the line is searched for among the rest
abbrev pub invariant-loop-step : goal.invariant-loop-step
invariant-loop-step l = record {
  rest : number_of_line l.steps l.line ≡ position_from (λ m. m == l.line) (l.number + 1) (operated_lines (drop l.step-index l.steps));
  few : l.number ≤ l.step-index;
}
