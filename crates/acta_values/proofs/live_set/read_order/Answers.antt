use Rattle.std.proofs.Common.{arith}
use Rattle.acta_values.proofs.LiveSets.{count_few}
use Rattle.acta_values.proofs.live_set.read_order.Goals as goal

pub returns-clause-count : goal.returns-clause-count
returns-clause-count g c =
    let few = count_few c.args.marks.now.entries in
    omega (arith, few, c.len-len.ensures.small, c.len-len.ensures.len)
