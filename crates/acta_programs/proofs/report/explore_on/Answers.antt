use Rattle.std.proofs.Common.{List, Option, None, subst, sym}
use Rattle.std.specs.Prelude.{is_some}
use Rattle.std.proofs.lemmas.Result.{IfOk-weaker}
use Rattle.acta_script.specs.declared.programs.ProgramLine.{ProgramLine}
use Rattle.acta_io.specs.Input.{Parsed, line_numbers}
use Rattle.acta_io.specs.declared.input.BadLine.{BadLine}
use Rattle.acta_io.specs.inside.Reports.{output_of}
use Rattle.acta_programs.specs.Answers.{IsAnswerTo, IsAnswerUnless}
use Rattle.acta_programs.proofs.report.explore_on.Goals as goal

pub returns : goal.returns
returns g c =
    let form = c.args.asked.form in
    let given = is_some c.args.asked.condition in
    let most = c.args.asked.most in
    let model = c.args.model.now in
    let numbers = line_numbers c.args.input.now in
    IfOk-weaker c.explore_lines.result _ _
    (λ report h.
    subst (λ (s : Parsed (ProgramLine _)). IsAnswerTo form given most model s numbers (output_of report)) (sym c.in_ok-read.ensures.parsed)
    (subst (λ (stop : Option BadLine). IsAnswerUnless stop form given most model c.in_ok-read.read.parsed.items numbers (output_of report)) (sym c.in-None.is)
    (subst (λ (lines : List (ProgramLine _)). IsAnswerUnless None form given most model lines numbers (output_of report)) c.as_slice-in-None.ensures.value h)))
    c.explore_lines.ensures
