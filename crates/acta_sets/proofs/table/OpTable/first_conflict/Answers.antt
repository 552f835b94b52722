use Rattle.std.proofs.Common.{ap, sym, subst, ◌∙◌}
use Rattle.acta_table.specs.Numbered.{first_number}
use Rattle.acta_sets.specs.Operations.{is_against}
use Rattle.acta_sets.specs.inside.Modes.{coarse, listed_fine}
use Rattle.acta_sets.specs.inside.Listing.{AreListed, in_table, in_map}
use Rattle.acta_sets.proofs.Searching.{found_for-is, first_none}
use Rattle.acta_sets.proofs.table.OpTable.first_conflict.Goals as goal

pub returns-then-has_conflict : goal.returns-then-has_conflict
returns-then-has_conflict g c =
    let items = c.as_slice.result.now in
    let back = sym c.as_slice.ensures.value in
    c.first_conflict.ensures
    ∙ found_for-is c.args.t.0 c.args.exempts.now.keys c.args.ob.0 c.args.op.now items (in_table c.self.inside.coarse.items) (in_map c.self.inside.fine)
    (subst (λ xs. AreListed coarse xs (in_table c.self.inside.coarse.items)) back c.self.invariant.coarse) (subst (λ xs. AreListed listed_fine xs (in_map c.self.inside.fine)) back c.self.invariant.fine)
    ∙ ap (first_number (is_against c.args.t.0 c.args.exempts.now.keys c.args.ob.0 c.args.op.now)) (c.as_slice.ensures.value ∙ c.self.view_is)

pub returns-else-has_conflict : goal.returns-else-has_conflict
returns-else-has_conflict g c =
    first_none (is_against c.args.t.0 c.args.exempts.now.keys c.args.ob.0 c.args.op.now) c.args.self.now (sym c.has_conflict.ensures ∙ c.if-has_conflict.false)
