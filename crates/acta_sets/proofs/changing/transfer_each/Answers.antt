use Rattle.std.proofs.Common.{arith}
use Rattle.acta_sets.proofs.Filed.{AreFiledBut-settled, filed_but_small}
use Rattle.acta_sets.proofs.changing.transfer_each.Goals as goal

pub settle-requires-clause-small : goal.settle-requires-clause-small
settle-requires-clause-small g c = λ q. omega (arith, c.requires.few, c.transfer_batches-batch.ensures.short, c.transfer_batches-batch.ensures.long, filed_but_small c.transfer_batches-batch.result c.args.t.0 c.args.u.0 c.transfer_batches-batch.new.items.items c.transfer_batches-batch.new.counts c.transfer_batches-batch.ensures.filed q)

pub returns-clause-filed : goal.returns-clause-filed
returns-clause-filed g c =
    AreFiledBut-settled c.transfer_batches-batch.result c.args.t.0 c.args.u.0 c.transfer_batches-batch.new.items.items c.transfer_batches-batch.new.counts c.settle.new.counts c.requires.other c.transfer_batches-batch.ensures.filed c.settle.ensures.counted
