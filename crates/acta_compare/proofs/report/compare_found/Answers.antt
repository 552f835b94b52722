use Rattle.std.proofs.Common.{List, inl, subst}
use Rattle.std.proofs.lemmas.Result.{IfOk-weaker}
use Rattle.acta_explore.specs.Outcomes.{Outcome}
use Rattle.acta_io.specs.inside.Reports.{output_of}
use Rattle.acta_compare.specs.Answers.{IsOfOutcomes}
use Rattle.acta_compare.proofs.report.compare_found.Goals as goal

pub returns-in-Ok : goal.returns-in-Ok
returns-in-Ok g c =
    let one = c.args.one.now.explored.now in
    let found = c.in-Ok in
    IfOk-weaker c.explain_only.result _ _
    (λ report of. inl (one.ends, found.explored.ends, c.requires.all, found.ensures.all, subst (λ (os : List (Outcome _) × List (Outcome _)). IsOfOutcomes os.0 os.1 (output_of report)) (λ i. (c.requires.outcomes i, found.ensures.outcomes i)) of))
    c.explain_only.ensures
