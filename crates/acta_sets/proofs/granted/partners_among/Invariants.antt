use Rattle.std.proofs.Common.{◌≡◌, map}
use Rattle.std.specs.Map.Iter.{deref}
use Rattle.acta_sets.specs.declared.grant.Grant.{Grant}
use Rattle.acta_sets.specs.inside.Granted.{partners_of}
use Rattle.acta_sets.proofs.granted.partners_among.Given as goal

-- the partners of the grants that the iterator has given
abbrev pub invariant-loop-grant : goal.invariant-loop-grant
invariant-loop-grant g l = l.partners.items ≡ partners_of (map (deref {X = Grant}) l.yielded)
