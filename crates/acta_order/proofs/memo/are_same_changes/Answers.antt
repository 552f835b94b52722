use Rattle.std.proofs.Common.{arith, ◌<◌, length}
use Rattle.acta_order.proofs.Same.{same_more, same_all}
use Rattle.acta_order.proofs.memo.are_same_changes.Goals as goal

pub loop-i-preserved : goal.loop-i-preserved
loop-i-preserved g c =
    let there : c.loop-i.i < length c.args.b.now = omega (arith, c.loop-i-test.true, c.if-a-b.false) in
    same_more c.args.a.now c.args.b.now c.loop-i.i c.index-a-i.result c.index-b-i.result c.loop-i-test.true there c.loop-i.invariant c.index-a-i.is c.index-b-i.is (c.in_ok-is_same_change.ensures c.if-not-branch.false)

pub returns : goal.returns
returns g c = λ yes. same_all c.args.a.now c.args.b.now c.loop-i.i c.if-a-b.false c.loop-i-test.false c.loop-i.invariant
