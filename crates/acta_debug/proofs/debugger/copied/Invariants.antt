use Rattle.std.proofs.Common.{◌≡◌, take}
use Rattle.acta_debug.proofs.debugger.copied.Given as goal

-- the items so far
abbrev pub invariant-loop-item : goal.invariant-loop-item
invariant-loop-item g l = l.copies.items ≡ take l.item-index l.items
