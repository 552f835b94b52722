use Rattle.std.proofs.Common.{ap, arith, length}
use Rattle.std.proofs.lemmas.List.{length-take}
use Rattle.acta_next.specs.Candidates.{MOST_TRIED}
use Rattle.acta_next.proofs.candidates.push_operations.Goals as goal

pub overflow_cast-id : goal.overflow_cast-id
overflow_cast-id g c =
    let size = ap length c.first_of-object-items.ensures in
    grind (arith, size, length-take MOST_TRIED c.objects.result.now, c.loop-number-test.true)
