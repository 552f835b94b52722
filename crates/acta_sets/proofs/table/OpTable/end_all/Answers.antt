use Rattle.std.specs.Prelude.{◌≡◌, length}
use Rattle.std.proofs.Common.{arith, ap, sym, subst, ◌∙◌}
use Rattle.std.proofs.lemmas.List.{length-map}
use Rattle.acta_sets.specs.Operations.{ended, ended_op}
use Rattle.acta_sets.specs.inside.Held.{AreHeld}
use Rattle.acta_sets.proofs.Access.{each-ended, AreHeld-ended}
use Rattle.acta_sets.specs.inside.Modes.{coarse, listed_fine}
use Rattle.acta_sets.specs.inside.Listing.{AreListed, FrontsHold, in_table, in_map}
use Rattle.acta_sets.proofs.Listed.{AreListed-same, AreListed-ended, FrontsHold-after, NoneReopens-ended}
use Rattle.acta_sets.proofs.table.OpTable.end_all.Given.{Over}
use Rattle.acta_sets.proofs.table.OpTable.end_all.Goals as goal

-- the list of t has the operations that it holds in progress
items_are : (g : Over) (c : goal.After-clear_held g) → c.end_each.new.items.items ≡ ended c.args.t.0 c.args.fate c.self.inside.items.items
items_are g c =
    c.end_each.ensures.items
    ∙ each-ended c.args.t.0 c.args.fate c.self.inside.items.items c.list_of.result.now (c.list_of.ensures ∙ c.self.invariant.held c.args.t.0)

pub invariant_of-self : goal.invariant_of-self
invariant_of-self g c =
    let items = c.self.inside.items.items in
    let same = items_are g c in
    let long = ap length same ∙ length-map items (ended_op c.args.t.0 c.args.fate) in
    record {
      few = omega (arith, long, c.self.invariant.few);
      held = subst (λ xs. AreHeld xs c.clear_held.new.held.items) (sym same) (AreHeld-ended items c.self.inside.held.items c.clear_held.new.held.items c.args.t.0 c.args.fate c.self.invariant.held c.requires c.clear_held.ensures.lists);
      among = c.clear_held.ensures.among c.self.invariant.among;
      filed = c.end_each.ensures.filed c.self.invariant.filed;
      coarse = AreListed-same coarse c.end_each.new.items.items (in_table c.self.inside.coarse.items) (in_table c.advance_each.new.coarse.items) (subst (λ xs. AreListed coarse xs (in_table c.self.inside.coarse.items)) (sym same) (AreListed-ended coarse items (in_table c.self.inside.coarse.items) c.args.t.0 c.args.fate c.self.invariant.coarse)) c.advance_each.ensures.coarse;
      coarse_fronts = subst (λ xs. FrontsHold xs (in_table c.advance_each.new.coarse.items)) c.as_slice.ensures.value c.advance_each.ensures.coarse_fronts;
      fine = AreListed-same listed_fine c.end_each.new.items.items (in_map c.self.inside.fine) (in_map c.advance_each.new.fine) (subst (λ xs. AreListed listed_fine xs (in_map c.self.inside.fine)) (sym same) (AreListed-ended listed_fine items (in_map c.self.inside.fine) c.args.t.0 c.args.fate c.self.invariant.fine)) c.advance_each.ensures.fine;
      fine_fronts = subst (λ xs. FrontsHold xs (in_map c.advance_each.new.fine)) c.as_slice.ensures.value c.advance_each.ensures.fine_fronts;
    }

pub returns : goal.returns
returns g c = items_are g c ∙ ap (ended c.args.t.0 c.args.fate) c.self.view_is

pub advance_each-requires-clause-coarse : goal.advance_each-requires-clause-coarse
advance_each-requires-clause-coarse g c =
    let items = c.self.inside.items.items in
    let same = c.end_each.ensures.items ∙ each-ended c.args.t.0 c.args.fate items c.list_of.result.now (c.list_of.ensures ∙ c.self.invariant.held c.args.t.0) in
    subst (λ xs. FrontsHold xs (in_table c.self.inside.coarse.items)) (sym (c.as_slice.ensures.value ∙ same))
    (FrontsHold-after items (ended c.args.t.0 c.args.fate items) (in_table c.self.inside.coarse.items) (NoneReopens-ended c.args.t.0 c.args.fate items c.requires) c.self.invariant.coarse_fronts)

pub advance_each-requires-clause-fine : goal.advance_each-requires-clause-fine
advance_each-requires-clause-fine g c =
    let items = c.self.inside.items.items in
    let same = c.end_each.ensures.items ∙ each-ended c.args.t.0 c.args.fate items c.list_of.result.now (c.list_of.ensures ∙ c.self.invariant.held c.args.t.0) in
    subst (λ xs. FrontsHold xs (in_map c.self.inside.fine)) (sym (c.as_slice.ensures.value ∙ same))
    (FrontsHold-after items (ended c.args.t.0 c.args.fate items) (in_map c.self.inside.fine) (NoneReopens-ended c.args.t.0 c.args.fate items c.requires) c.self.invariant.fine_fronts)
