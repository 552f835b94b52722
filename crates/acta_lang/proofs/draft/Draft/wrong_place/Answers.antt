use Rattle.std.proofs.Common.{◌≡◌, false, option_map, sym, ap, ◌∙◌, true≢false}
use Rattle.acta_lang.specs.Faults.{is_object, is_class}
use Rattle.acta_lang.specs.inside.Abstraction.{current_shown, abstraction}
use Rattle.acta_lang.proofs.Held.{parsed_inside}
use Rattle.acta_lang.proofs.draft.Draft.wrong_place.Goals as goal
use Rattle.acta_lang.proofs.draft.Draft.wrong_place.Goals.{then-is_object, else-is_object}

pub returns-else-is_class : goal.returns-else-is_class
returns-else-is_class g c =
    let class = c.in-Some.class in
    let object : is_object c.args.parsed.now ≡ false = elim c.if-is_object.branch [
      | then-is_object w ↦ absurd (true≢false (sym w.if-is_object.true ∙ sym w.value-is ∙ c.if-is_class.false))
      | else-is_object w ↦ sym c.is_object.ensures ∙ w.if-is_object.false
    ] in
    let begins : is_class c.args.parsed.now ≡ false = elim c.if-is_object.branch [
      | then-is_object w ↦ absurd (true≢false (sym w.if-is_object.true ∙ sym w.value-is ∙ c.if-is_class.false))
      | else-is_object w ↦ sym w.is_class.ensures ∙ sym w.value-is ∙ c.if-is_class.false
    ] in
    c.has.ensures class.name.now
    ∙ parsed_inside c.args.parsed.now (abstraction c.args.self.now) (current_shown class) (ap (option_map current_shown) c.in-Some.is) object begins
