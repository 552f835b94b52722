use Rattle.std.proofs.Common.{not, ◌∙◌, ap, sym}
use Rattle.std.specs.List.{before_first, list_any}
use Rattle.acta_words.specs.Text.{is_blank, is_mark}
use Rattle.acta_words.proofs.Blanks.{has_word}
use Rattle.acta_words.proofs.words.has_words.Goals as goal

pub returns : goal.returns
returns c =
    c.has_inside.ensures
    ∙ ap (list_any (λ b. not (is_blank b))) c.without_comment.ensures
    ∙ sym (has_word (before_first is_mark c.args.line.now))
