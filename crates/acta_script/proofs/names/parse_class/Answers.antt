use Rattle.std.proofs.Common.{arith}
use Rattle.acta_script.proofs.Checked.{few_classes}
use Rattle.acta_script.proofs.names.parse_class.Goals as goal

pub overflow_cast-result : goal.overflow_cast-result
overflow_cast-result g c = grind (arith, few_classes c.args.model.now c.classes.ensures.faultless)
