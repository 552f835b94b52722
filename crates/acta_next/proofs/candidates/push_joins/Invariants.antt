use Rattle.std.proofs.Common.{◌≡◌, ◌++◌, drop}
use Rattle.acta_next.specs.Candidates.{joins}
use Rattle.acta_next.proofs.candidates.push_joins.Given as goal

abbrev pub invariant-loop-u : goal.invariant-loop-u
invariant-loop-u g l =
    l.events.items ++ joins l.t (drop l.u-index l.list) ≡ l.initial.events.items ++ joins l.t l.list
