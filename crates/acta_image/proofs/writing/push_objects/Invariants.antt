use Rattle.std.proofs.Common.{◌≡◌, ◌++◌, drop}
use Rattle.std.specs.List.{flat_map}
use Rattle.acta_image.specs.Spelling.{object_bytes}
use Rattle.acta_image.proofs.writing.push_objects.Given as goal

-- with the rest, it is all
abbrev pub invariant-loop-object : goal.invariant-loop-object
invariant-loop-object g l =
    l.image.items ++ flat_map object_bytes (drop l.object-index l.objects) ≡ l.initial.image.items ++ flat_map object_bytes l.objects
