use Rattle.std.proofs.Common.{◌≡◌, sym, subst, ◌∙◌, IfOk, Option}
use Rattle.acta_script.specs.declared.diagnosis.Diagnostic.{Diagnostic}
use Rattle.acta_script.specs.Diagnosis.{lower_of}
use Rattle.acta_script.proofs.Signs.{wrong-with_sign, wrong-without_sign}
use Rattle.acta_script.proofs.diagnosis.wrong_kept.Goals as goal

pub returns-in_default : goal.returns-in_default
returns-in_default g c =
    subst (λ (d : Option Diagnostic). IfOk c.wrong_event.result (λ found. found ≡ d))
    (sym (wrong-without_sign c.args.model.now (λ word. word.now) c.args.words.now (sym c.sign_place.ensures ∙ c.in_default.is)))
    c.wrong_event.ensures

pub returns : goal.returns
returns g c =
    c.lower_of.ensures
    ∙ (λ i. lower_of (c.in_ok-event.ensures i) (c.in_ok-ret.ensures i))
    ∙ sym (wrong-with_sign c.args.model.now (λ word. word.now) c.args.words.now c.in-Some.at (sym c.sign_place.ensures ∙ c.in-Some.is))
