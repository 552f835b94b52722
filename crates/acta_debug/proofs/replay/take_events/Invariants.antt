use Rattle.std.proofs.Common.{◌≡◌, drop}
use Rattle.acta_machine.specs.Places.{FollowsPlaces}
use Rattle.acta_machine.specs.Table.{after_all}
use Rattle.acta_debug.specs.Histories.{events_in}
use Rattle.acta_debug.proofs.replay.take_events.Given as goal

-- the remaining events lead to the same final machine
abbrev pub invariant-loop-item : goal.invariant-loop-item
invariant-loop-item g l =
    record {
      rest : after_all l.machine (events_in (drop l.item-index l.items)) ≡ after_all l.initial.machine (events_in l.items);
      follows : FollowsPlaces l.machine;
    }
