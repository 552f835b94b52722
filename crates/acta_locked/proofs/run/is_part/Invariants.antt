use Rattle.std.proofs.Common.{◌≡◌, ◌≤◌, length, take}
use Rattle.acta_locked.specs.Books.{seat_part}
use Rattle.acta_locked.proofs.run.is_part.Given as goal

-- the part so far is the report so far
abbrev pub invariant-loop-entry : goal.invariant-loop-entry
invariant-loop-entry g l = record {
  part : seat_part l.seat (take l.entry-index l.entries) ≡ take l.next l.report;
  within : l.next ≤ length l.report;
}
