use Rattle.std.proofs.Common.{◌≤◌, List, length, drop}
use Rattle.acta_table.specs.declared.model.Kind.{Kind}
use Rattle.acta_values.specs.KeptValues.{AreAfter}
use Rattle.acta_values.proofs.TakenBack.{AreAfterBut}
use Rattle.acta_values.proofs.values.take_back.Given as goal

-- the operations from here on are undone
abbrev pub invariant-loop-left : goal.invariant-loop-left
invariant-loop-left g l =
    record {
      within : l.left ≤ length l.held;
      back : (kinds : List Kind) → AreAfter kinds l.items l.fn.values → AreAfterBut kinds l.items (drop l.left l.held) l.values;
    }

abbrev pub decreases-loop-left : goal.decreases-loop-left
decreases-loop-left g l = l.left
