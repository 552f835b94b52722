use Rattle.std.proofs.Common.{◌≡◌, ℕ, List, IfOk, subst, map, ap, ◌∙◌}
use Rattle.std.specs.Result.{result_err}
use Rattle.acta_words.specs.Text.{words_of}
use Rattle.acta_script.specs.Diagnosis.{wrong_kept}
use Rattle.acta_script.specs.Reading.{parse_kept}
use Rattle.acta_script.proofs.Diagnoses.{diagnosed_kept, diagnosed_if}
use Rattle.acta_script.proofs.WrongPlaces.{kept_wrong, wrong_if}
use Rattle.acta_script.proofs.diagnosis.diagnose_kept.Goals as goal

pub returns-clause-fault : goal.returns-clause-fault
returns-clause-fault g c =
    let words = map (λ word. word.now) c.deref.result.now in
    diagnosed_if c.wrong_kept.result (wrong_kept c.args.model.now words) _ c.wrong_kept.ensures
    (diagnosed_kept c.args.model.now words ∙ ap (λ ws. result_err (parse_kept c.args.model.now ws)) (ap (map (λ word. word.now)) c.deref.ensures.value ∙ c.in_ok-words.ensures))

pub returns-clause-wrong : goal.returns-clause-wrong
returns-clause-wrong g c =
    let m = c.args.model.now in
    let all = words_of c.args.line.now in
    let same : map (λ word. word.now) c.deref.result.now ≡ all = ap (map (λ word. word.now)) c.deref.ensures.value ∙ c.in_ok-words.ensures in
    wrong_if m all c.wrong_kept.result (wrong_kept m all)
    (subst (λ (words : List (List ℕ)). IfOk c.wrong_kept.result (λ found. found ≡ wrong_kept m words)) same c.wrong_kept.ensures)
    (kept_wrong m all)
