use Rattle.std.proofs.Common.{◌≡◌, ◌++◌, drop, take}
use Rattle.acta_next.specs.Candidates.{MOST_TRIED, operations, operations_from}
use Rattle.acta_next.proofs.candidates.push_operations.Given as goal

abbrev pub invariant-loop-number : goal.invariant-loop-number
invariant-loop-number g l =
    l.events.items ++ operations_from l.t l.number (drop l.number (take MOST_TRIED l.model.objects)) ≡ l.initial.events.items ++ operations l.model l.t
