use Rattle.std.proofs.Common.{◌≡◌, ◌++◌, drop}
use Rattle.std.specs.List.{flat_map}
use Rattle.acta_image.specs.Spelling.{class_bytes}
use Rattle.acta_image.proofs.writing.push_classes.Given as goal

-- with the rest, it is all
abbrev pub invariant-loop-class : goal.invariant-loop-class
invariant-loop-class g l =
    l.image.items ++ flat_map class_bytes (drop l.class-index l.classes) ≡ l.initial.image.items ++ flat_map class_bytes l.classes
