use Rattle.std.proofs.Common.{◌≡◌, take}
use Rattle.acta_table.proofs.model.copy_classes.Given as goal

abbrev pub invariant-loop-class : goal.invariant-loop-class
invariant-loop-class g l = l.copied.items ≡ take l.class-index l.classes
