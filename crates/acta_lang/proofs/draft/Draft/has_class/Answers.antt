use Rattle.std.proofs.Common.{◌||◌, false, sym, ap, ◌∙◌, option_map}
use Rattle.std.specs.Option.{option_map_or}
use Rattle.std.specs.Str.{bytes_eq}
use Rattle.acta_lang.specs.inside.Abstraction.{current_shown}
use Rattle.acta_lang.proofs.Held.{among_classes}
use Rattle.acta_lang.proofs.draft.Draft.has_class.Goals as goal

pub returns-then-is_declared : goal.returns-then-is_declared
returns-then-is_declared g c =
    c.if-is_declared.true
    ∙ sym (among_classes c.args.name.now c.args.self.now.classes.entries (option_map current_shown c.args.self.now.current)
    ∙ ap (λ b. b || option_map_or (λ class. bytes_eq c.args.name.now class.name) (option_map current_shown c.args.self.now.current) false) (sym c.is_declared.ensures ∙ c.if-is_declared.true))

pub returns-else-is_declared : goal.returns-else-is_declared
returns-else-is_declared g c =
    c.is_current.ensures
    ∙ sym (among_classes c.args.name.now c.args.self.now.classes.entries (option_map current_shown c.args.self.now.current)
    ∙ ap (λ b. b || option_map_or (λ class. bytes_eq c.args.name.now class.name) (option_map current_shown c.args.self.now.current) false) (sym c.is_declared.ensures ∙ c.if-is_declared.false))
