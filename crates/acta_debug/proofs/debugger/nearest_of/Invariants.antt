use Rattle.std.proofs.Common.{◌<◌, ◌≤◌, get_or, length}
use Rattle.std.specs.Prelude.{IfSome}
use Rattle.acta_machine.specs.Table.{State}
use Rattle.acta_debug.proofs.debugger.nearest_of.Given as goal

-- the machine found so far has kept few enough events
abbrev pub invariant-loop-k : goal.invariant-loop-k
invariant-loop-k g l =
    record {
      within : IfSome l.found (λ k. k < length l.machines);
      up_to : (t : State g.row.A.Denot) → IfSome l.found (λ k. length (get_or l.machines k t).kept ≤ l.events);
    }
