use Rattle.acta_machine.specs.Table.{edges_in, status_in}
use Rattle.acta_hope.specs.Starts.{AreLost}
use Rattle.acta_hope.proofs.LastLost.{AreNoted}
use Rattle.acta_hope.proofs.starts.never_begin.Given as goal

-- each that is noted never begins, and the edges before the place are noted
abbrev pub invariant-loop-place : goal.invariant-loop-place
invariant-loop-place g l = record {
  lost : AreLost l.machine l.lost.items;
  noted : AreNoted l.place 16384 (status_in l.machine) (edges_in l.machine) l.lost.items;
}
