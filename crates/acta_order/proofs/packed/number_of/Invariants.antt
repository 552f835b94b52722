use Rattle.std.proofs.Common.{◌≡◌, take}
use Rattle.acta_order.specs.Packed.{number_of}
use Rattle.acta_order.proofs.packed.number_of.Given as goal

-- the number of the bits so far
abbrev pub invariant-loop-mark : goal.invariant-loop-mark
invariant-loop-mark l = l.number ≡ number_of (take l.mark-index l.marks)
