use Rattle.std.proofs.Common.{◌≡◌, ◌++◌, map}
use Rattle.std.specs.Map.Iter.{deref}
use Rattle.acta_sets.specs.declared.grant.Grant.{Grant}
use Rattle.acta_sets.specs.inside.Granted.{permits_to}
use Rattle.acta_sets.proofs.granted.put_permits.Given as goal

-- the permits that the grants so far stand for
abbrev pub invariant-loop-grant : goal.invariant-loop-grant
invariant-loop-grant g l = l.permits.items ≡ l.initial.permits.items ++ permits_to l.to (map (deref {X = Grant}) l.yielded)
