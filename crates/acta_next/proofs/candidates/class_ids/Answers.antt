use Rattle.std.proofs.Common.{ap, arith, length}
use Rattle.acta_script.proofs.Checked.{few_classes}
use Rattle.acta_next.proofs.candidates.class_ids.Goals as goal

pub overflow_cast-number : goal.overflow_cast-number
overflow_cast-number g c =
    let size = ap length c.classes-class-items.ensures.classes in
    grind (arith, size, few_classes c.args.model.now c.classes-class-items.ensures.faultless, c.loop-number-test.true)
