use Rattle.std.proofs.Common.{◌≡◌, ℕ, List, IfOk, subst, map, ap, ◌∙◌}
use Rattle.std.specs.Result.{result_err}
use Rattle.acta_words.specs.Text.{words_of}
use Rattle.acta_script.specs.Diagnosis.{wrong_seated}
use Rattle.acta_script.specs.Reading.{parse_seated}
use Rattle.acta_script.proofs.Diagnoses.{diagnosed_seated, diagnosed_if}
use Rattle.acta_script.proofs.WrongPlaces.{seated_wrong, wrong_if}
use Rattle.acta_script.proofs.diagnosis.diagnose_seated.Goals as goal

pub returns-clause-fault : goal.returns-clause-fault
returns-clause-fault g c =
    let words = map (λ word. word.now) c.deref.result.now in
    diagnosed_if c.wrong_seated.result (wrong_seated c.args.model.now c.args.seats words) _ c.wrong_seated.ensures
    (diagnosed_seated c.args.model.now c.args.seats words ∙ ap (λ ws. result_err (parse_seated c.args.model.now c.args.seats ws)) (ap (map (λ word. word.now)) c.deref.ensures.value ∙ c.in_ok-words.ensures))

pub returns-clause-wrong : goal.returns-clause-wrong
returns-clause-wrong g c =
    let m = c.args.model.now in
    let all = words_of c.args.line.now in
    let same : map (λ word. word.now) c.deref.result.now ≡ all = ap (map (λ word. word.now)) c.deref.ensures.value ∙ c.in_ok-words.ensures in
    wrong_if m all c.wrong_seated.result (wrong_seated m c.args.seats all)
    (subst (λ (words : List (List ℕ)). IfOk c.wrong_seated.result (λ found. found ≡ wrong_seated m c.args.seats words)) same c.wrong_seated.ensures)
    (seated_wrong m c.args.seats all)
