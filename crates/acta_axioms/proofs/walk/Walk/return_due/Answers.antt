use Rattle.std.proofs.Common.{take, ap, ◌∙◌}
use Rattle.acta_objects.specs.declared.state.ObjectState.{ObjectState}
use Rattle.acta_objects.specs.Objects.{returned}
use Rattle.acta_axioms.specs.Values.{return_due}
use Rattle.acta_axioms.proofs.Searches.{value-read}
use Rattle.acta_axioms.proofs.walk.Walk.return_due.Goals as goal

pub returns : goal.returns
returns g c =
    let w = c.self.inside in
    c.due.ensures
    ∙ value-read w.model.now (take w.taken w.kept.now) w.store c.args.object.0 (λ (state : ObjectState g.row.A.Denot). returned state c.args.op.now) c.self.invariant.kinds_are c.self.invariant.items_are
    ∙ ap (λ w. return_due w.model w.front c.args.object.0 c.args.op.now) c.self.view_is
