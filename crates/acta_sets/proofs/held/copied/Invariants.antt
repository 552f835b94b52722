use Rattle.std.proofs.Common.{◌≡◌, take}
use Rattle.acta_sets.specs.inside.Held.{lists}
use Rattle.acta_sets.proofs.held.copied.Given as goal

abbrev pub invariant-loop-list : goal.invariant-loop-list
invariant-loop-list g l = lists l.copied.items ≡ take l.list-index (lists l.held.items)
