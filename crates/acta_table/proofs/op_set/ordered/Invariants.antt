use Rattle.std.proofs.Common.{◌≡◌, [], fold, drop}
use Rattle.std.specs.BTreeSet.{insert_key}
use Rattle.std.specs.Ordering.{nat_cmp}
use Rattle.acta_table.specs.Sets.{numbers_of}
use Rattle.acta_table.proofs.op_set.ordered.Given as goal

-- what is left, put in from here, gives what all gives
abbrev pub invariant-loop-op : goal.invariant-loop-op
invariant-loop-op g l = fold (insert_key nat_cmp) l.set.keys (numbers_of (drop l.op-index l.ops)) ≡ fold (insert_key nat_cmp) [] (numbers_of l.ops)
