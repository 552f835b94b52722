use Rattle.std.proofs.Common.{◌≡◌, ◌+◌, ◌-◌, ◌/◌, ◌++◌, length}
use Rattle.acta_order.specs.Packed.{packed}
use Rattle.acta_order.proofs.packed.packed.Given as goal

-- the words so far, and those of the marks that are left
abbrev pub invariant-loop : goal.invariant-loop
invariant-loop g l = l.words.items ++ packed ((length l.marks / 64 + 1) - l.counter) l.left ≡ packed (length l.marks / 64 + 1) l.marks
