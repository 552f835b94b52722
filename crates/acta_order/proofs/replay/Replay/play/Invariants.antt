use Rattle.std.proofs.Common.{◌≡◌, ◌++◌, take}
use Rattle.acta_order.specs.Search.{values_of, Plays}
use Rattle.acta_order.proofs.replay.Replay.play.Given as goal

-- those so far are done, and play
abbrev pub invariant-loop-place : goal.invariant-loop-place
invariant-loop-place g l = record {
  kinds : l.self.kinds ≡ l.initial.self.kinds;
  done : l.self.done ≡ l.initial.self.done ++ take l.place l.group;
  plays : Plays (values_of {A = g.row.A.Denot} l.initial.self) (take l.place l.group);
}
