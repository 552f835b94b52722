use Rattle.std.proofs.Common.{◌≡◌, map, ℕ}
use Rattle.std.specs.Map.Iter.{deref}
use Rattle.acta_table.specs.Policies.{edges_upon}
use Rattle.acta_table.proofs.policy.Policy.edges_upon.Given as goal

-- the edges on the holders that the iterator has given
abbrev pub invariant-loop-holder : goal.invariant-loop-holder
invariant-loop-holder g l = l.edges.items ≡ edges_upon l.self l.t (map (deref {X = ℕ}) l.yielded)
