use Rattle.std.proofs.Common.{◌≡◌, ◌++◌, drop, flat_map}
use Rattle.acta_judge.proofs.edges.owed_by.Given as goal

-- the debts so far, with those of the parts ahead, are all
abbrev pub invariant-loop-part : goal.invariant-loop-part
invariant-loop-part g l = l.debts.items ++ flat_map (λ part. part.owed) (drop l.part-index l.parts) ≡ flat_map (λ part. part.owed) l.parts
