use Rattle.std.proofs.Common.{[], ◌++◌, map, flat_map, ap, ◌∙◌}
use Rattle.acta_lang.specs.Canonical.{canonical, class_words, object_words}
use Rattle.acta_lang.specs.inside.Written.{written}
use Rattle.acta_lang.proofs.Writing.{lines_more}
use Rattle.acta_lang.proofs.printing.print_model.Goals as goal

pub returns-clause-text : goal.returns-clause-text
unfolding canonical
returns-clause-text g c =
    let objects = map object_words c.objects.result.now in
    lines_more [] _ _ objects (flat_map class_words c.classes.result.now)
    (c.in_ok-push_objects.ensures ∙ ap (λ t. t ++ written objects) c.new-text.ensures.items)
    c.in_ok-push_classes.ensures
    ∙ (λ i. written (map object_words (c.objects.ensures.objects i) ++ flat_map class_words (c.classes.ensures.classes i)))
