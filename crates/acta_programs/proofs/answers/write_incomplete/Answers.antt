use Rattle.std.proofs.Common.{ap, ◌∙◌}
use Rattle.std.proofs.lemmas.Result.{IfOk-weaker}
use Rattle.acta_io.specs.Reports.{refused_by}
use Rattle.acta_programs.proofs.answers.write_incomplete.Goals as goal

pub returns : goal.returns
returns g c =
    let line = c.as_slice.ensures.value ∙ c.in_ok-line.ensures in
    IfOk-weaker c.refuse_by.result _ _ (λ report e. e ∙ ap refused_by line) c.refuse_by.ensures
