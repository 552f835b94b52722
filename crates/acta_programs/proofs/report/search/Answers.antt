use Rattle.std.proofs.Common.{inl}
use Rattle.std.proofs.lemmas.Result.{IfOk-weaker}
use Rattle.acta_programs.proofs.report.search.Goals as goal

pub returns-in-Ok : goal.returns-in-Ok
returns-in-Ok g c =
    IfOk-weaker c.write_ends-report.result _ _ (λ report of. inl (c.in-Ok.explored.ends, c.in-Ok.ensures.all, of)) c.write_ends-report.ensures
