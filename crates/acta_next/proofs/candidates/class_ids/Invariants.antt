use Rattle.std.proofs.Common.{◌≡◌, ◌++◌, drop}
use Rattle.acta_next.specs.Candidates.{class_ids, class_ids_from}
use Rattle.acta_next.proofs.candidates.class_ids.Given as goal

abbrev pub invariant-loop-number : goal.invariant-loop-number
invariant-loop-number g l =
    l.ids.items ++ class_ids_from l.number (drop l.number l.model.classes) ≡ class_ids l.model
