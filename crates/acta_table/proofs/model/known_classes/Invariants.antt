use Rattle.std.specs.List.{AllWithin}
use Rattle.acta_table.specs.Typed.{HasSets}
use Rattle.acta_table.proofs.model.known_classes.Given as goal

abbrev pub invariant-loop-class : goal.invariant-loop-class
invariant-loop-class g l = AllWithin (λ class. HasSets class) l.classes 0 l.class-index
