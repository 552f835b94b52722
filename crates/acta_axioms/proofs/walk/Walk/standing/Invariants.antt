use Rattle.std.proofs.Common.{◌≡◌, ◌≤◌, ◌+◌, take, option_map}
use Rattle.acta_axioms.specs.Operations.{number_after, standing_of}
use Rattle.acta_axioms.specs.inside.Walking.{standing_in}
use Rattle.acta_axioms.proofs.walk.Walk.standing.Given as goal

-- the operation after the items so far, and the number of the next operation
abbrev pub invariant-loop-i : goal.invariant-loop-i
invariant-loop-i g l =
    record {
      held : option_map standing_in l.held ≡ standing_of l.self.model (take l.i l.self.front) l.op.0;
      number : l.number ≡ number_after (take l.i l.self.front);
      low : l.number ≤ l.i + 1;
    }
