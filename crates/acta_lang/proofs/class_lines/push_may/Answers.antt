use Rattle.std.proofs.Common.{codes, ◌++◌, ap, ◌∙◌}
use Rattle.acta_lang.specs.Canonical.{may_words}
use Rattle.acta_lang.proofs.Writing.{line_pieces}
use Rattle.acta_lang.proofs.class_lines.push_may.Goals as goal

pub returns : goal.returns
returns g c =
    let old = c.args.text.now.items in
    line_pieces old (codes "may") (may_words c.args.kinds) _ _ _ (c.in_ok-extend_from_slice.ensures.items ∙ ap (λ w. old ++ w) c.as_bytes.ensures.value) c.in_ok-push_may_words.ensures c.in_ok-push.ensures.items
