use Rattle.std.proofs.Common.{arith, ◌∙◌}
use Rattle.acta_lang.specs.Canonical.{class_words}
use Rattle.acta_lang.proofs.Writing.{lines_step}
use Rattle.acta_lang.proofs.printing.push_classes.Goals as goal

pub loop-class-preserved : goal.loop-class-preserved
loop-class-preserved g c =
    lines_step class_words c.args.classes.now c.loop-class.class-index c.class-item.result c.loop-class.text.items _ (omega arith) c.class-item.is c.in_ok-push_class.ensures
    ∙ c.loop-class.invariant
