use Rattle.std.proofs.Common.{codes, ◌∷◌, ◌++◌, sym, ap, ◌∙◌}
use Rattle.acta_lang.specs.Canonical.{dep_words, policy_words}
use Rattle.acta_lang.specs.inside.Written.{spaced}
use Rattle.acta_lang.proofs.Writing.{word_more}
use Rattle.acta_lang.proofs.class_lines.push_policy_words.Goals as goal

pub returns-in_ok-push_dep_words-in-Depend : goal.returns-in_ok-push_dep_words-in-Depend
returns-in_ok-push_dep_words-in-Depend g c =
    let old = c.args.text.now.items in
    word_more old _ _ (codes "depend") (dep_words c.in-Depend.kinds) (c.in_ok-push_word-in-Depend.ensures ∙ ap (λ w. old ++ 32 ∷ w) c.as_bytes-in-Depend.ensures.value) c.in_ok-push_dep_words-in-Depend.ensures
    ∙ ap (λ p. old ++ spaced (policy_words p)) (sym c.in-Depend.is)
