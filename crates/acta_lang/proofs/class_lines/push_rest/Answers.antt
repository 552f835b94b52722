use Rattle.std.proofs.Common.{codes, [], ◌∷◌, ◌++◌, ◌∙◌}
use Rattle.acta_lang.specs.Canonical.{policy_words}
use Rattle.acta_lang.specs.Words.{commit_word, extent_word}
use Rattle.acta_lang.specs.inside.Written.{written}
use Rattle.acta_lang.proofs.Writing.{lines_more}
use Rattle.acta_lang.proofs.class_lines.push_rest.Goals as goal

pub returns : goal.returns
returns g c =
    let old = c.args.text.now.items in
    let class = c.args.class.now in
    let policy = codes "policy" ∷ policy_words class.policy in
    let commit = codes "commit" ∷ commit_word class.at_commit ∷ [] in
    let extent = codes "delegation" ∷ extent_word class.extent ∷ [] in
    lines_more old _ _ (policy ∷ commit ∷ []) (extent ∷ [])
    (lines_more old _ _ (policy ∷ []) (commit ∷ [])
    c.in_ok-push_policy.ensures
    (c.in_ok-push_pair.ensures ∙ (λ i. c.push_policy.new.text.items ++ written ((c.as_bytes.ensures.value i ∷ (c.as_bytes-2.ensures.value ∙ c.commit_word.ensures) i ∷ []) ∷ []))))
    (c.in_ok-push_pair-2.ensures ∙ (λ i. c.push_pair.new.text.items ++ written ((c.as_bytes-3.ensures.value i ∷ (c.as_bytes-4.ensures.value ∙ c.extent_word.ensures) i ∷ []) ∷ [])))
