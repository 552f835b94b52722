use Rattle.std.proofs.Common.{◌≡◌, ◌++◌, drop}
use Rattle.std.specs.List.{flat_map}
use Rattle.acta_explore.specs.Outcomes.{seats_of}
use Rattle.acta_explore.specs.inside.Turns.{turns_at, turns_of_seat}
use Rattle.acta_explore.proofs.plan.Plan.turns.Given as goal

-- the turns so far, and the rest
abbrev pub invariant-loop-seat : goal.invariant-loop-seat
invariant-loop-seat g l = l.turns.items ++ flat_map (turns_of_seat l.self l.done) (drop l.seat-index (seats_of l.self)) ≡ turns_at l.self l.done
