use Rattle.std.proofs.Common.{◌≡◌, ℕ, List, IfOk, subst, map, ap, ◌∙◌}
use Rattle.std.specs.Result.{result_err}
use Rattle.acta_words.specs.Text.{words_of}
use Rattle.acta_script.specs.Diagnosis.{wrong_event}
use Rattle.acta_script.specs.Reading.{parse_event}
use Rattle.acta_script.proofs.Diagnoses.{diagnosed_event, diagnosed_if}
use Rattle.acta_script.proofs.WrongPlaces.{event_wrong, all_at, wrong_if}
use Rattle.acta_script.proofs.diagnosis.diagnose_event.Goals as goal

pub returns-clause-fault : goal.returns-clause-fault
returns-clause-fault g c =
    let words = map (λ word. word.now) c.deref.result.now in
    diagnosed_if c.wrong_event.result (wrong_event c.args.model.now 0 words) _ c.wrong_event.ensures
    (diagnosed_event c.args.model.now 0 words ∙ ap (λ ws. result_err (parse_event c.args.model.now ws)) (ap (map (λ word. word.now)) c.deref.ensures.value ∙ c.in_ok-words.ensures))

pub returns-clause-wrong : goal.returns-clause-wrong
returns-clause-wrong g c =
    let m = c.args.model.now in
    let all = words_of c.args.line.now in
    let same : map (λ word. word.now) c.deref.result.now ≡ all = ap (map (λ word. word.now)) c.deref.ensures.value ∙ c.in_ok-words.ensures in
    wrong_if m all c.wrong_event.result (wrong_event m 0 all)
    (subst (λ (words : List (List ℕ)). IfOk c.wrong_event.result (λ found. found ≡ wrong_event m 0 words)) same c.wrong_event.ensures)
    (event_wrong m all all (all_at all))
