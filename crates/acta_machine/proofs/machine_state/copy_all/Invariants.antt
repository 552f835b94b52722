use Rattle.std.proofs.Common.{◌≡◌, take}
use Rattle.acta_machine.proofs.machine_state.copy_all.Given as goal

-- the items so far
abbrev pub invariant-loop-item : goal.invariant-loop-item
invariant-loop-item g l = l.copied.items ≡ take l.item-index l.items
