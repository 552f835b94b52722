use Rattle.std.proofs.Common.{◌≡◌, take}
use Rattle.acta_locked.proofs.watch.begins.Given as goal

-- the same so far
abbrev pub invariant-loop-k : goal.invariant-loop-k
invariant-loop-k g l = take l.k l.first ≡ take l.k l.second
