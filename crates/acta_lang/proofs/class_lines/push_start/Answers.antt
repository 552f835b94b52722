use Rattle.std.proofs.Common.{codes, [], ◌∷◌, ◌++◌, ◌∙◌}
use Rattle.acta_lang.specs.Canonical.{may_words, starts_words}
use Rattle.acta_lang.specs.Words.{scope_word}
use Rattle.acta_lang.specs.inside.Written.{written}
use Rattle.acta_lang.proofs.Writing.{lines_more}
use Rattle.acta_lang.proofs.class_lines.push_start.Goals as goal

pub returns : goal.returns
returns g c =
    let old = c.args.text.now.items in
    let class = c.args.class.now in
    let name = codes "class" ∷ class.name ∷ [] in
    let starts = codes "starts" ∷ starts_words class.starts in
    let may = codes "may" ∷ may_words class.may in
    let scope = codes "scope" ∷ scope_word class.scope ∷ [] in
    lines_more old _ _ (name ∷ starts ∷ may ∷ []) (scope ∷ [])
    (lines_more old _ _ (name ∷ starts ∷ []) (may ∷ [])
    (lines_more old _ _ (name ∷ []) (starts ∷ [])
    (c.in_ok-push_pair.ensures ∙ (λ i. old ++ written ((c.as_bytes.ensures.value i ∷ c.as_slice.ensures i ∷ []) ∷ [])))
    c.in_ok-push_starts.ensures)
    c.in_ok-push_may.ensures)
    (c.in_ok-push_pair-2.ensures ∙ (λ i. c.push_may.new.text.items ++ written ((c.as_bytes-2.ensures.value i ∷ (c.as_bytes-3.ensures.value ∙ c.scope_word.ensures) i ∷ []) ∷ [])))
