use Rattle.std.proofs.Common.{◌≡◌, ◌+◌, ◌≤◌, take}
use Rattle.acta_table.specs.declared.limits.TheConstants.{MOST_EVENTS}
use Rattle.acta_debug.specs.Histories.{IsHistory}
use Rattle.acta_debug.proofs.Replaying.{with_kept}
use Rattle.acta_debug.proofs.replay.first_other_on.Given as goal

-- the items so far are a history, and the machine has kept them
abbrev pub invariant-loop-item : goal.invariant-loop-item
invariant-loop-item g l =
    record {
      place : l.place ≡ l.item-index + 1;
      few : l.item-index ≤ MOST_EVENTS;
      kept : l.recording ≡ with_kept l.fn.recording.model (take l.item-index l.items);
      so_far : IsHistory l.fn.recording.model (take l.item-index l.items);
    }
