use Rattle.std.proofs.Common.{◌∙◌}
use Rattle.std.proofs.lemmas.Result.{IfOk-weaker}
use Rattle.acta_axioms.proofs.Searches.{others-found}
use Rattle.acta_axioms.proofs.walk.Walk.conflict_set.Goals as goal

pub returns : goal.returns
returns g c = IfOk-weaker c.seek.result _ _ (λ _ seen. seen ∙ others-found c.args.self.now.model c.args.self.now.front c.args.t.0) c.seek.ensures
