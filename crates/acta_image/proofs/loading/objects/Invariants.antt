use Rattle.std.proofs.Common.{◌≡◌, ◌-◌}
use Rattle.acta_image.specs.Reading.{read_object, read_items}
use Rattle.acta_image.proofs.Loops.{on_front}
use Rattle.acta_image.proofs.loading.objects.Given as goal

-- those so far, and those still to be read, are all
abbrev pub invariant-loop : goal.invariant-loop
invariant-loop g l = on_front l.objects.items (read_items (read_object l.size) (l.count - l.counter) l.rest) ≡ read_items (read_object l.size) l.count l.bytes
