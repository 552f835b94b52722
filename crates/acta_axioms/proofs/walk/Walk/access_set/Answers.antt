use Rattle.std.proofs.Common.{ap, ◌∙◌}
use Rattle.std.proofs.lemmas.Result.{IfOk-weaker}
use Rattle.acta_sets.specs.Operations.{access_set}
use Rattle.acta_axioms.proofs.Searches.{held-found}
use Rattle.acta_axioms.proofs.walk.Walk.access_set.Goals as goal

pub returns : goal.returns
returns g c =
    IfOk-weaker c.access_set.result _ _
    (λ _ seen. seen ∙ ap (access_set c.args.t.0) c.table.ensures ∙ held-found c.args.self.now.model c.args.self.now.front c.args.t.0)
    c.access_set.ensures
