use Rattle.std.proofs.Common.{◌≤◌, take}
use Rattle.std.specs.List.{All}
use Rattle.acta_table.specs.Events.{named}
use Rattle.acta_axioms.proofs.txn_record.largest_named.Given as goal

-- no number named so far is larger
abbrev pub invariant-loop-item : goal.invariant-loop-item
invariant-loop-item g l = All (λ k. All (λ t. t ≤ l.largest) (named k.event)) (take l.item-index l.kept)
