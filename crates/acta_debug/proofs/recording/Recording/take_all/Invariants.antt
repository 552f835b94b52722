use Rattle.std.proofs.Common.{◌≡◌, drop}
use Rattle.acta_machine.specs.Table.{after_all}
use Rattle.acta_debug.proofs.recording.Recording.take_all.Given as goal

-- the remaining events lead to the same final machine
abbrev pub invariant-loop-event : goal.invariant-loop-event
invariant-loop-event g l = after_all l.self (drop l.event-index l.events) ≡ after_all l.initial.self l.events
