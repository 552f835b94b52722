use Rattle.std.proofs.Common.{◌++◌, ◌∷◌, [], ◌∙◌, ap, ℕ, List, false, codes}
use Rattle.acta_words.specs.Text.{text_of}
use Rattle.acta_serialize.proofs.answers.write_none.Goals as goal

-- the line, and then why
pub returns : goal.returns
returns g c = (
  c.as_bytes.result.now,
  ap (λ (text : List ℕ). record { is_refused = false; text = text })
      (c.in_ok-extend_from_slice.ensures.items
      ∙ ap (λ (text : List ℕ). text ++ c.as_bytes.result.now)
      (c.in_ok-push_line.ensures ∙ ap (λ (text : List ℕ). text ++ text_of (codes "no serial order" ∷ [])) c.new-text.ensures.items)),
)
