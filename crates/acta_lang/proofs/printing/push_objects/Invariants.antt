use Rattle.std.proofs.Common.{◌≡◌, ◌++◌, drop, map}
use Rattle.acta_lang.specs.Canonical.{object_words}
use Rattle.acta_lang.specs.inside.Written.{written}
use Rattle.acta_lang.proofs.printing.push_objects.Given as goal

-- with the rest, it is all
abbrev pub invariant-loop-object : goal.invariant-loop-object
invariant-loop-object g l =
    l.text.items ++ written (map object_words (drop l.object-index l.objects)) ≡ l.initial.text.items ++ written (map object_words l.objects)
