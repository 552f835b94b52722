use Rattle.std.proofs.Common.{false, map, option_map, sym, ap, ◌∙◌}
use Rattle.std.specs.Option.{option_map_or}
use Rattle.acta_words.specs.Text.{is_word_among}
use Rattle.acta_lang.specs.inside.Abstraction.{current_shown, closed_shown}
use Rattle.acta_lang.proofs.Held.{closed_names-abstraction}
use Rattle.acta_lang.proofs.draft.Draft.close.Goals as goal

pub add_name-requires : goal.add_name-requires
add_name-requires g c =
    let closed = map (λ c. c.name) (map (closed_shown {A = g.row.A.Denot}) c.args.self.now.classes.entries) in
    sym (ap (λ names. is_word_among names c.in-Some.class.name.now) (closed_names-abstraction c.args.self.now.classes.entries))
    ∙ sym (ap (λ o. option_map_or (λ class. is_word_among closed class.name) (option_map current_shown o) false) (sym c.take.ensures.value ∙ c.in-Some.is))
    ∙ c.requires
