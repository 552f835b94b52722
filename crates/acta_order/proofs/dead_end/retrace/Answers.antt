use Rattle.std.proofs.Common.{[], get_or}
use Rattle.acta_order.specs.Earlier.{limit}
use Rattle.acta_order.proofs.Blocking.{replayed-more}
use Rattle.acta_order.proofs.dead_end.retrace.Goals as goal

pub loop-c-preserved : goal.loop-c-preserved
loop-c-preserved g c =
    replayed-more g.row.A.Denot c.args.replay.now.kinds (λ t. get_or c.args.groups.now t []) (limit c.args.earlier.now) c.args.ts.now c.loop-c.path c.place.new.path c.loop-c.replay c.place.new.replay _ c.loop-c.invariant c.requires.sound (c.in_ok-place.ensures c.if-not-branch.false)
