use Rattle.std.proofs.Common.{◌≡◌, map}
use Rattle.std.specs.Map.Iter.{deref}
use Rattle.acta_sets.specs.declared.grant.Grant.{Grant}
use Rattle.acta_sets.proofs.granted.listed.Given as goal

-- the grants that the iterator has given
abbrev pub invariant-loop-grant : goal.invariant-loop-grant
invariant-loop-grant g l = l.list.items ≡ map (deref {X = Grant}) l.yielded
