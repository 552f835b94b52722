use Rattle.std.proofs.Common.{◌≡◌, ◌+◌, ◌-◌, ◌≤◌, length, take}
use Rattle.std.specs.List.{range_with_len}
use Rattle.acta_machine.specs.Places.{FollowsPlaces}
use Rattle.acta_debug.specs.Stops.{stop_among, stop_of}
use Rattle.acta_debug.specs.inside.Shown.{session_of}
use Rattle.acta_debug.proofs.Replaying.{with_kept}
use Rattle.acta_debug.proofs.running.run_on.Given as goal

-- the machine has kept the items so far, and no break holds at their places
abbrev pub invariant-loop-k : goal.invariant-loop-k
invariant-loop-k g l =
    let session = session_of l.fn.machine l.history l.at l.breaks in
    record {
      within : l.k ≤ length l.history;
      kept : l.machine ≡ with_kept l.fn.machine.model (take l.k l.history);
      follows : FollowsPlaces l.machine;
      reported : stop_of session ≡ stop_among session (range_with_len (l.k + 1) (length l.history - l.k));
    }
