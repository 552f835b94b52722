use Rattle.std.proofs.Common.{◌≡◌, ◌+◌, length, take}
use Rattle.acta_order.proofs.replay.Replay.cut.Given as goal

-- so many are taken back, none of the first
abbrev pub invariant-loop : goal.invariant-loop
invariant-loop g l = record {
  kinds : l.self.kinds ≡ l.initial.self.kinds;
  count : length l.self.done + l.counter ≡ length l.initial.self.done + l.len;
  front : take l.len l.self.done ≡ take l.len l.initial.self.done;
}
