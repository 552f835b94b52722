use Rattle.acta_explore.specs.inside.Keys.{txn_in}
use Rattle.acta_explore.proofs.Keying.{IsCountedTo}
use Rattle.acta_explore.proofs.key.txn_count.Given as goal

-- the transactions below t are counted
abbrev pub invariant-loop-t : goal.invariant-loop-t
invariant-loop-t g l = IsCountedTo (txn_in l.machine) l.t l.count
