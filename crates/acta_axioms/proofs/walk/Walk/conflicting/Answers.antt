use Rattle.std.proofs.Common.{sym, ◌∙◌}
use Rattle.std.proofs.lemmas.Result.{IfOk-weaker}
use Rattle.acta_axioms.proofs.Searches.{against-found, none-found}
use Rattle.acta_axioms.proofs.walk.Walk.conflicting.Goals as goal

pub returns-then-not-may_conflict : goal.returns-then-not-may_conflict
returns-then-not-may_conflict g c =
    c.new.ensures.items
    ∙ none-found c.args.self.now.model c.args.self.now.front c.args.t.0 c.args.object c.args.op.now (c.may_conflict.ensures c.if-not-may_conflict.true)

pub returns-then-has_conflict : goal.returns-then-has_conflict
returns-then-has_conflict g c = IfOk-weaker c.seek.result _ _ (λ _ seen. seen ∙ against-found c.args.self.now.model c.args.self.now.front c.args.t.0 c.args.object c.args.op.now) c.seek.ensures

pub returns : goal.returns
returns g c =
    c.new-else-has_conflict.ensures.items
    ∙ none-found c.args.self.now.model c.args.self.now.front c.args.t.0 c.args.object c.args.op.now (sym c.has_conflict.ensures ∙ c.if-has_conflict.false)
