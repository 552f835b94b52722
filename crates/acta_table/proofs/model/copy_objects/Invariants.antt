use Rattle.std.proofs.Common.{◌≡◌, take}
use Rattle.acta_table.proofs.model.copy_objects.Given as goal

abbrev pub invariant-loop-object : goal.invariant-loop-object
invariant-loop-object g l = l.copied.items ≡ take l.object-index l.objects
