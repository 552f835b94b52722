use Rattle.std.proofs.Common.{◌≡◌, ◌++◌, drop, flat_map}
use Rattle.acta_lang.specs.Canonical.{class_words}
use Rattle.acta_lang.specs.inside.Written.{written}
use Rattle.acta_lang.proofs.printing.push_classes.Given as goal

-- with the rest, it is all
abbrev pub invariant-loop-class : goal.invariant-loop-class
invariant-loop-class g l =
    l.text.items ++ written (flat_map class_words (drop l.class-index l.classes)) ≡ l.initial.text.items ++ written (flat_map class_words l.classes)
