use Rattle.std.proofs.Common.{◌≡◌, ◌+◌, drop}
use Rattle.std.specs.List.{position_from}
use Rattle.acta_table.specs.Numbered.{first_number}
use Rattle.acta_debug.specs.Breaks.{holds_of}
use Rattle.acta_debug.proofs.breaks.lowest_that_holds.Given as goal

-- no break so far holds
abbrev pub invariant-loop-i : goal.invariant-loop-i
invariant-loop-i g l =
    first_number (holds_of l.machine l.event) l.breaks ≡ position_from (holds_of l.machine l.event) (l.i + 1) (drop l.i l.breaks)
