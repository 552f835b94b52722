use Rattle.std.proofs.Common.{not, map, option_map, sym, ap, ◌∙◌}
use Rattle.acta_lang.specs.inside.Abstraction.{current_shown, abstraction}
use Rattle.acta_lang.proofs.Held.{end_inside}
use Rattle.acta_lang.proofs.draft.Draft.missing_part.Goals as goal

pub returns-in-Some : goal.returns-in-Some
returns-in-Some g c =
    ap not (c.is_all.ensures c.in-Some.class.name.now)
    ∙ end_inside c.args.is_last (map (λ word. word.now) c.args.words.now) c.args.parsed.now (abstraction c.args.self.now) (current_shown c.in-Some.class) (sym c.is_end.ensures ∙ c.if-is_end.true) (ap (option_map current_shown) c.in-Some.is)
