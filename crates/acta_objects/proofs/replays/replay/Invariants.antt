use Rattle.std.proofs.Common.{◌≡◌, ◌+◌, ◌++◌, drop}
use Rattle.acta_objects.specs.Objects.{first_state, state_after, returns_of}
use Rattle.acta_objects.proofs.Near.{IsSmall}
use Rattle.acta_objects.proofs.replays.replay.Given as goal

-- what is left, from here, ends where all would; with what it returns, the returns are all
abbrev pub invariant-loop-op : goal.invariant-loop-op
invariant-loop-op g l =
    record {
      state : state_after l.state (drop l.op-index l.ops) ≡ state_after (first_state l.kind) l.ops;
      rets : l.rets.items ++ returns_of l.state (drop l.op-index l.ops) ≡ returns_of {A = g.row.A.Denot} (first_state l.kind) l.ops;
      small : IsSmall (l.op-index + 1) l.state;
    }
