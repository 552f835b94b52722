use Rattle.std.proofs.Common.{◌+◌, ◌/◌, length}
use Rattle.acta_order.proofs.Remembering.{packed-next, packed-end}
use Rattle.acta_order.proofs.packed.packed.Goals as goal

pub loop-preserved : goal.loop-preserved
loop-preserved g c =
    packed-next (length c.args.marks.now / 64 + 1) c.loop.counter c.loop.words.items c.push.new.self.items c.args.marks.now c.loop.left.now c.split_word.result.0.now c.split_word.result.1.now c.in-Some.word c.loop-test.true
    c.split_word.ensures.first c.split_word.ensures.behind c.in-Some.ensures c.in_ok-push.ensures.items c.loop.invariant

pub returns : goal.returns
returns g c = packed-end (length c.args.marks.now / 64 + 1) c.loop.counter c.loop.words.items c.args.marks.now c.loop.left.now c.loop-test.false c.loop.invariant
