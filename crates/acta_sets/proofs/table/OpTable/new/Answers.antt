use Rattle.std.specs.Prelude.{[], List}
use Rattle.std.proofs.Common.{rules, refl, ap, sym, subst, ◌∙◌, arith}
use Rattle.acta_sets.specs.declared.held_op.HeldOp.{HeldOp}
use Rattle.acta_sets.specs.declared.listing.ModeList.{ModeList}
use Rattle.std.specs.List.{sum_by}
use Rattle.acta_sets.specs.inside.Filing.{filings}
use Rattle.acta_sets.specs.inside.Modes.{coarse}
use Rattle.acta_sets.specs.inside.Listing.{AreListed, FrontsHold, in_table}
use Rattle.acta_sets.proofs.Listed.{numbers-none, front-none, HaveEnded-same}
use Rattle.acta_sets.proofs.table.OpTable.new.Goals as goal

pub invariant_of-result : goal.invariant_of-result
invariant_of-result g c =
    let none = c.new-4.ensures.items in
    record {
      few = search rules;
      held = search rules;
      among = search rules;
      filed = λ q. c.no_counts.ensures q ∙ ap (sum_by (filings q)) (sym c.new.ensures.items);
      coarse = subst (λ (ls : List (ModeList g.row.A.Denot)). AreListed coarse c.new.result.items (in_table ls)) (sym none)
          (subst (λ (xs : List HeldOp). AreListed coarse xs (in_table {A = g.row.A.Denot} [])) (sym c.new.ensures.items) (numbers-none g.row.A.Denot));
      coarse_fronts = subst (λ (ls : List (ModeList g.row.A.Denot)). FrontsHold c.new.result.items (in_table ls)) (sym none)
          (λ q. HaveEnded-same c.new.result.items [] _ 0 _ (sym (numbers-none g.row.A.Denot q)) (sym (front-none g.row.A.Denot q)) (omega arith, refl));
      fine = search rules;
      fine_fronts = search rules;
    }
