use Rattle.std.proofs.Common.{◌&&◌, List, ℕ, sym, ap, ◌∙◌}
use Rattle.std.specs.List.{list_any}
use Rattle.acta_sets.specs.Operations.{is_against}
use Rattle.acta_values.specs.Conflicts.{is_well_formed}
use Rattle.acta_values.proofs.Unconflicted.{not_exempt}
use Rattle.acta_values.proofs.conflicts.may_conflict.Goals as goal

pub returns : goal.returns
returns g c =
    λ exempt none.
    let w = is_well_formed c.args.model.now c.args.object.0 c.args.op.now in
    let items = c.args.operations.now in
    not_exempt w c.args.t.0 exempt c.args.object.0 c.args.op.now items
    (ap (λ (keys : List ℕ). w && list_any (is_against c.args.t.0 keys c.args.object.0 c.args.op.now) items) (sym c.new.ensures.empty) ∙ sym c.has_conflict.ensures ∙ none)
