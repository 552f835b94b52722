use Rattle.std.proofs.Common.{arith}
use Rattle.std.proofs.lemmas.Grind.{common_steps}
use Rattle.acta_image.proofs.writing.push_classes.Goals as goal

pub push_class-requires : goal.push_class-requires
push_class-requires g c = grind (arith, common_steps)
