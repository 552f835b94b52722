use Rattle.std.proofs.Common.{◌≡◌, ℕ, List, IfOk, subst, map, ap, ◌∙◌}
use Rattle.std.specs.Result.{result_err}
use Rattle.acta_words.specs.Text.{words_of}
use Rattle.acta_script.specs.Diagnosis.{wrong_command}
use Rattle.acta_script.specs.Commands.{parse_command}
use Rattle.acta_script.proofs.Diagnoses.{diagnosed_command, diagnosed_if}
use Rattle.acta_script.proofs.WrongPlaces.{command_wrong, wrong_if}
use Rattle.acta_script.proofs.diagnosis.diagnose_command.Goals as goal

pub returns-clause-fault : goal.returns-clause-fault
returns-clause-fault g c =
    let words = map (λ word. word.now) c.deref.result.now in
    diagnosed_if c.wrong_command.result (wrong_command c.args.model.now words) _ c.wrong_command.ensures
    (diagnosed_command c.args.model.now words ∙ ap (λ ws. result_err (parse_command c.args.model.now ws)) (ap (map (λ word. word.now)) c.deref.ensures.value ∙ c.in_ok-words.ensures))

pub returns-clause-wrong : goal.returns-clause-wrong
returns-clause-wrong g c =
    let m = c.args.model.now in
    let all = words_of c.args.line.now in
    let same : map (λ word. word.now) c.deref.result.now ≡ all = ap (map (λ word. word.now)) c.deref.ensures.value ∙ c.in_ok-words.ensures in
    wrong_if m all c.wrong_command.result (wrong_command m all)
    (subst (λ (words : List (List ℕ)). IfOk c.wrong_command.result (λ found. found ≡ wrong_command m words)) same c.wrong_command.ensures)
    (command_wrong m all)
