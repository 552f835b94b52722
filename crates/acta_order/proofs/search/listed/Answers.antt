use Rattle.std.proofs.Common.{arith, ◌<◌, get_or}
use Rattle.acta_order.specs.Search.{at}
use Rattle.acta_order.proofs.Placed.{at-in}
use Rattle.acta_order.proofs.search.listed.Goals as goal

pub overflow_cast-at : goal.overflow_cast-at
overflow_cast-at g c =
    let j = get_or c.args.taken.now c.loop-j.j-index 0 in
    let within = c.requires.within j (at-in c.args.taken.now c.loop-j.j-index c.loop-j-test.true) in
    let low : at c.args.ts.now j < 65536 = c.requires.low (at c.args.ts.now j) (at-in c.args.ts.now j within) in
    omega (arith, low, c.at.ensures)
