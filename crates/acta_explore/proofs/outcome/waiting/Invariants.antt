use Rattle.std.proofs.Common.{◌≡◌, ◌++◌, drop, map}
use Rattle.std.specs.List.{filter_map}
use Rattle.acta_explore.specs.Outcomes.{seats_of, waiting_at}
use Rattle.acta_explore.specs.inside.Shown.{shown_wait}
use Rattle.acta_explore.proofs.outcome.waiting.Given as goal

-- the seats so far, and the rest
abbrev pub invariant-loop-seat : goal.invariant-loop-seat
invariant-loop-seat g l = map shown_wait l.waits.items ++ filter_map (waiting_at l.plan l.point) (drop l.seat-index (seats_of l.plan)) ≡ filter_map (waiting_at l.plan l.point) (seats_of l.plan)
