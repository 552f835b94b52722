use Rattle.std.proofs.Common.{◌≡◌, take}
use Rattle.acta_order.proofs.memo.are_same_changes.Given as goal

-- those so far are the same
abbrev pub invariant-loop-i : goal.invariant-loop-i
invariant-loop-i g l = take l.i l.a ≡ take l.i l.b
