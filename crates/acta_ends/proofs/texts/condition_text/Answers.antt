use Rattle.std.proofs.Common.{◌≡◌, ◌++◌, drop, ap, ◌∙◌}
use Rattle.std.proofs.lemmas.Result.{IfOk-weaker}
use Rattle.acta_words.specs.Text.{line_of}
use Rattle.acta_ends.specs.ConditionWords.{condition_words}
use Rattle.acta_ends.proofs.Pieces.{spaced, unspaced}
use Rattle.acta_ends.proofs.texts.condition_text.Goals as goal

pub returns : goal.returns
returns g c =
    let model = c.args.model.now in
    let numbers = c.args.numbers.now in
    let words = condition_words model numbers c.as_slice.result.now in
    let written : c.as_slice-2.result.now ≡ spaced words =
    c.as_slice-2.ensures.value ∙ c.in_ok-push_terms.ensures ∙ ap (λ ts. ts ++ spaced words) c.new-text.ensures.items
    in
    let line : c.unspaced.result.now ≡ line_of (condition_words model numbers c.args.condition.now.terms.items) =
    c.unspaced.ensures
    ∙ ap (λ ts. drop 1 ts) written
    ∙ unspaced words
    ∙ ap (λ ts. line_of (condition_words model numbers ts)) c.as_slice.ensures.value
    in
    IfOk-weaker c.from_slice.result _ _ (λ v items. items ∙ line) c.from_slice.ensures.items
