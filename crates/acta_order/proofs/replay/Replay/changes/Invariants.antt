use Rattle.acta_order.proofs.Changing.{AreChanged}
use Rattle.acta_order.proofs.replay.Replay.changes.Given as goal

-- the values so far
abbrev pub invariant-loop-place : goal.invariant-loop-place
invariant-loop-place g l = AreChanged g.row.A.Denot l.self l.changes.items l.place
