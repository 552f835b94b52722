use Rattle.std.proofs.Common.{◌≡◌, ◌++◌, drop}
use Rattle.acta_next.specs.Candidates.{others}
use Rattle.acta_next.proofs.candidates.others.Given as goal

abbrev pub invariant-loop-u : goal.invariant-loop-u
invariant-loop-u g l =
    l.list.items ++ others l.t (drop l.u-index l.active) ≡ others l.t l.active
