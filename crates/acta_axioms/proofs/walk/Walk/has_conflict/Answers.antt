use Rattle.std.proofs.Common.{◌&&◌, ap, ◌∙◌}
use Rattle.std.specs.List.{list_any}
use Rattle.acta_sets.specs.Operations.{is_against as is_against_in}
use Rattle.acta_values.specs.Conflicts.{is_well_formed}
use Rattle.acta_axioms.specs.inside.Walking.{is_against}
use Rattle.acta_axioms.proofs.Searches.{any-tells}
use Rattle.acta_axioms.proofs.walk.Walk.has_conflict.Goals as goal

pub returns : goal.returns
returns g c =
    let m = c.args.self.now.model in
    let h = c.args.self.now.front in
    let t = c.args.t.0 in
    c.has_conflict.ensures
    ∙ ap (λ k. is_well_formed k c.args.object.0 c.args.op.now && list_any (is_against_in t c.args.exempt.now.keys c.args.object.0 c.args.op.now) c.table.result.now) (ap (λ w. w.model) c.self.view_is)
    ∙ any-tells m h t c.args.object.0 c.args.op.now c.args.exempt.now.keys c.table.result.now c.requires
    ∙ ap (list_any (is_against m h t c.args.object.0 c.args.op.now)) c.table.ensures
