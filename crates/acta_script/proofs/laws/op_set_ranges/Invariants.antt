use Rattle.std.proofs.Common.{◌≡◌, nat_le, true, take}
use Rattle.std.specs.List.{list_all}
use Rattle.acta_script.proofs.laws.op_set_ranges.Given as goal

-- the numbers so far are in range
abbrev pub invariant-loop-op : goal.invariant-loop-op
invariant-loop-op g l = list_all (λ o. nat_le o.0 0xffff_ffff) (take l.op-index l.op-items) ≡ true
