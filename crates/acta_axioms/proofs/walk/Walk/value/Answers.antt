use Rattle.std.proofs.Common.{take, option_map, ap, ◌∙◌}
use Rattle.std.proofs.lemmas.Result.{IfOk-weaker}
use Rattle.acta_table.specs.Classes.{kind_at}
use Rattle.acta_objects.specs.declared.state.ObjectState.{ObjectState}
use Rattle.acta_axioms.specs.Values.{value}
use Rattle.acta_axioms.proofs.Searches.{value-read}
use Rattle.acta_axioms.proofs.walk.Walk.value.Goals as goal

pub returns : goal.returns
returns g c =
    let w = c.self.inside in
    IfOk-weaker c.value.result _ _
    (λ _ kept.
    kept
    ∙ value-read w.model.now (take w.taken w.kept.now) w.store c.args.object.0 (λ (state : ObjectState g.row.A.Denot). state) c.self.invariant.kinds_are c.self.invariant.items_are
    ∙ ap (λ w. option_map (value w.model w.front c.args.object.0) (kind_at w.model c.args.object.0)) c.self.view_is)
    c.value.ensures
