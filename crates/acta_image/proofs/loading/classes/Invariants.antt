use Rattle.std.proofs.Common.{◌≡◌, ◌-◌}
use Rattle.acta_image.specs.Reading.{read_class, read_items}
use Rattle.acta_image.proofs.Loops.{on_front}
use Rattle.acta_image.proofs.loading.classes.Given as goal

-- those so far, and those still to be read, are all
abbrev pub invariant-loop : goal.invariant-loop
invariant-loop g l = on_front l.classes.items (read_items (read_class l.version l.size) (l.count - l.counter) l.rest) ≡ read_items (read_class l.version l.size) l.count l.bytes
