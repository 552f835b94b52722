use Rattle.std.proofs.Common.{◌≡◌, map}
use Rattle.std.specs.List.{range_with_len}
use Rattle.acta_explore.specs.inside.Keys.{txn_in}
use Rattle.acta_explore.proofs.key.txns_of.Given as goal

-- the transactions below t
abbrev pub invariant-loop-t : goal.invariant-loop-t
invariant-loop-t g l = l.txns.items ≡ map (txn_in l.machine) (range_with_len 0 l.t)
