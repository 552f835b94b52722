use Rattle.std.proofs.Common.{◌≡◌, [], take, get_or}
use Rattle.std.specs.List.{flat_map}
use Rattle.acta_axioms.specs.Serial.{commit_order}
use Rattle.acta_axioms.proofs.serial.in_commit_order.Given as goal

-- the groups of those that commit so far
abbrev pub invariant-loop-k : goal.invariant-loop-k
invariant-loop-k g l = l.items.items ≡ flat_map (λ t. get_or l.groups t []) (commit_order (take l.k-index l.kept))
