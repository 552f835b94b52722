use Rattle.std.proofs.Common.{length, ap, ◌∙◌}
use Rattle.std.proofs.lemmas.Result.{on_ok_weaker}
use Rattle.acta_judge.specs.inside.Parts.{advanced}
use Rattle.acta_judge.proofs.Advancing.{advanced-all}
use Rattle.acta_judge.proofs.parts.report_rest.Goals as goal

pub returns-clause-walked : goal.returns-clause-walked
returns-clause-walked g c =
    let w = c.args.walk.now in
    on_ok_weaker c.report_part.result (λ walked. walked ∙ ap (λ ks. advanced (length ks) w) c.ahead-left.ensures ∙ advanced-all w) c.report_part.ensures.walked
