use Rattle.std.proofs.Common.{codes, ◌++◌, ap, ◌∙◌}
use Rattle.acta_lang.specs.Canonical.{policy_words}
use Rattle.acta_lang.proofs.Writing.{line_pieces}
use Rattle.acta_lang.proofs.class_lines.push_policy.Goals as goal

pub returns : goal.returns
returns g c =
    let old = c.args.text.now.items in
    line_pieces old (codes "policy") (policy_words c.args.policy) _ _ _ (c.in_ok-extend_from_slice.ensures.items ∙ ap (λ w. old ++ w) c.as_bytes.ensures.value) c.in_ok-push_policy_words.ensures c.in_ok-push.ensures.items
