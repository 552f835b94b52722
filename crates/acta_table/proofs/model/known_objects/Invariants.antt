use Rattle.std.specs.List.{AllWithin}
use Rattle.acta_table.specs.Typed.{HasFirst}
use Rattle.acta_table.proofs.model.known_objects.Given as goal

abbrev pub invariant-loop-object : goal.invariant-loop-object
invariant-loop-object g l = AllWithin (λ object. HasFirst object.kind) l.objects 0 l.object-index
