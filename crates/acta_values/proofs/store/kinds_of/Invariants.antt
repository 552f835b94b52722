use Rattle.std.proofs.Common.{◌≡◌, take}
use Rattle.acta_values.specs.KeptValues.{kinds_of}
use Rattle.acta_values.proofs.store.kinds_of.Given as goal

-- the kinds so far
abbrev pub invariant-loop-object : goal.invariant-loop-object
invariant-loop-object g l = l.kinds.items ≡ kinds_of (take l.object-index l.objects)
