use Rattle.std.proofs.Common.{◌≡◌, ◌-◌}
use Rattle.std.specs.List.{filter_map, range_with_len}
use Rattle.acta_machine.specs.Table.{status_in}
use Rattle.acta_explore.specs.Outcomes.{begun_status}
use Rattle.acta_explore.proofs.outcome.statuses.Given as goal

-- the transactions below t
abbrev pub invariant-loop-t : goal.invariant-loop-t
invariant-loop-t g l = l.statuses.items ≡ filter_map (begun_status (status_in l.machine)) (range_with_len 1 (l.t - 1))
