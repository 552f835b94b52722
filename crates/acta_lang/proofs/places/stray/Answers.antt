use Rattle.std.proofs.Common.{◌+◌, not, sym, ap, ◌∙◌}
use Rattle.std.specs.Option.{option_map_or}
use Rattle.acta_lang.specs.Places.{may_stand}
use Rattle.acta_lang.proofs.WordLists.{position_mapped}
use Rattle.acta_lang.proofs.places.stray.Goals as goal

pub returns-in-Some : goal.returns-in-Some
returns-in-Some c =
    ap (λ from. from + c.in-Some.place) c.from.ensures
    ∙ sym (ap (λ o. option_map_or (λ place. c.args.from + place) o 2) (position_mapped (λ word. not (may_stand c.args.expected word)) (λ word. word.now) 0 c.args.words.now ∙ sym c.first_stray.ensures.first ∙ c.in-Some.is))

pub returns-in-None : goal.returns-in-None
returns-in-None c =
    sym (ap (λ o. option_map_or (λ place. c.args.from + place) o 2) (position_mapped (λ word. not (may_stand c.args.expected word)) (λ word. word.now) 0 c.args.words.now ∙ sym c.first_stray.ensures.first ∙ c.in-None.is))
