use Rattle.std.proofs.Common.{sym, ap, ◌∙◌}
use Rattle.acta_words.specs.Text.{is_word_among}
use Rattle.acta_lang.proofs.Held.{object_names-abstraction}
use Rattle.acta_lang.proofs.draft.Draft.has_object.Goals as goal

pub returns : goal.returns
returns g c =
    c.is_declared.ensures ∙ sym (ap (λ names. is_word_among names c.args.name.now) (object_names-abstraction g.row.A.Denot c.args.self.now.objects.entries))
