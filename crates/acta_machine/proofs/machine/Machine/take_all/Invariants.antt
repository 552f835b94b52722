use Rattle.std.proofs.Common.{◌≡◌, drop, ◌++◌}
use Rattle.acta_machine.specs.Places.{FollowsPlaces}
use Rattle.acta_machine.specs.Table.{answers_to, after_all}
use Rattle.acta_machine.proofs.machine.Machine.take_all.Given as goal

-- the answers so far and those to the remaining events are those to all, and the machine, which agrees with the places,
-- reaches the same final state
abbrev pub invariant-loop-event : goal.invariant-loop-event
invariant-loop-event g l =
    record {
      reported : l.answers.items ++ answers_to l.self (drop l.event-index l.events) ≡ answers_to l.initial.self l.events;
      follows : FollowsPlaces l.self;
      rest : after_all l.self (drop l.event-index l.events) ≡ after_all l.initial.self l.events;
    }
