use Rattle.std.proofs.Common.{ap, ◌∙◌}
use Rattle.std.proofs.lemmas.Result.{IfOk-weaker}
use Rattle.acta_axioms.specs.inside.Wanted.{edges_wanted}
use Rattle.acta_axioms.proofs.EdgesWanted.{wanted-formed}
use Rattle.acta_axioms.proofs.walk.Walk.edges_due.Goals as goal

pub returns-in_default : goal.returns-in_default
returns-in_default g c = IfOk-weaker c.edges_wanted.result _ _ (λ _ seen. seen ∙ ap (λ ks. edges_wanted ks c.args.event.now) (c.classes.ensures.classes ∙ ap (λ w. w.model.classes) c.self.view_is) ∙ wanted-formed c.args.self.now.model c.args.self.now.front c.args.event.now c.in_default.not-Operate) c.edges_wanted.ensures
