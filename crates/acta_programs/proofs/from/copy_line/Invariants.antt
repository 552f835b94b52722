use Rattle.std.proofs.Common.{◌≡◌, take}
use Rattle.acta_programs.proofs.from.copy_line.Given as goal

-- the alternatives so far
abbrev pub invariant-loop-event : goal.invariant-loop-event
invariant-loop-event g l = l.events.items ≡ take l.event-index l.alternatives
