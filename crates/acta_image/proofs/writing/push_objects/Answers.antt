use Rattle.std.proofs.Common.{arith}
use Rattle.std.proofs.lemmas.Grind.{common_steps}
use Rattle.acta_image.proofs.writing.push_objects.Goals as goal

pub push_object-requires : goal.push_object-requires
push_object-requires g c = grind (arith, common_steps)
