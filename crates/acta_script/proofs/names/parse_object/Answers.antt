use Rattle.std.proofs.Common.{arith}
use Rattle.acta_script.proofs.Checked.{few_objects}
use Rattle.acta_script.proofs.names.parse_object.Goals as goal

pub overflow_cast-result : goal.overflow_cast-result
overflow_cast-result g c = grind (arith, few_objects c.args.model.now c.objects.ensures.faultless)
