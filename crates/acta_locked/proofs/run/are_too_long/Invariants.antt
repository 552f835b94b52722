use Rattle.std.proofs.Common.{◌≡◌, ◌+◌, length, take}
use Rattle.std.specs.Prelude.{sum_by}
use Rattle.acta_table.specs.declared.limits.TheConstants.{MOST_EVENTS}
use Rattle.acta_locked.proofs.run.are_too_long.Given as goal

-- what the scripts so far leave
abbrev pub invariant-loop-script : goal.invariant-loop-script
invariant-loop-script g l = l.room + sum_by length (take l.script-index l.scripts) ≡ MOST_EVENTS
