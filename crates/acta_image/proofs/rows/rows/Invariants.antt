use Rattle.std.proofs.Common.{◌≡◌, ◌-◌}
use Rattle.acta_image.specs.Reading.{read_rows}
use Rattle.acta_image.proofs.Loops.{on_front}
use Rattle.acta_image.proofs.rows.rows.Given as goal

-- the rows so far, and those still to be read, are all
abbrev pub invariant-loop : goal.invariant-loop
invariant-loop g l = on_front l.edges.items (read_rows l.which l.size l.least (l.count - l.counter) l.rest) ≡ read_rows l.which l.size 0 l.count l.bytes
