use Rattle.std.proofs.Common.{sym, ap, ◌∙◌}
use Rattle.acta_words.specs.Text.{is_word_among}
use Rattle.acta_lang.proofs.Held.{object_names-abstraction}
use Rattle.acta_lang.proofs.draft.Draft.add_object.Goals as goal

pub add_name-requires : goal.add_name-requires
add_name-requires g c =
    sym (ap (λ names. is_word_among names c.args.name.now) (object_names-abstraction g.row.A.Denot c.args.self.now.objects.entries)) ∙ c.requires
