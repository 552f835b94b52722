use Rattle.std.proofs.Common.{ap, sym, ◌∙◌}
use Rattle.std.proofs.lemmas.Result.{IfOk-weaker}
use Rattle.acta_judge.specs.Verdicts.{verdict}
use Rattle.acta_locked.proofs.desk.SharedLog.history.Goals as goal

pub returns-clause-faultless : goal.returns-clause-faultless
returns-clause-faultless g c =
    IfOk-weaker c.history.result _ _ (λ copy clean. ap (λ m. (verdict m copy.items).faults) (sym c.args.self.now.of_model) ∙ clean) c.history.ensures.faultless
