use Rattle.std.specs.Prelude.{◌≡◌, length}
use Rattle.std.proofs.Common.{arith, ap, sym, subst, ◌∙◌}
use Rattle.std.proofs.lemmas.List.{length-map}
use Rattle.acta_sets.specs.Operations.{transferred, transferred_op, is_held}
use Rattle.acta_sets.specs.inside.Held.{AreHeld, numbers_by}
use Rattle.acta_sets.proofs.Access.{numbers_by-all, length-numbers_by, each-given, changed-transferred, transferred_same, AreHeld-same, AreHeld-transferred}
use Rattle.acta_sets.specs.inside.Modes.{coarse, listed_fine}
use Rattle.acta_sets.specs.inside.Listing.{AreListed, FrontsHold, in_table, in_map}
use Rattle.acta_sets.proofs.Listed.{AreListed-transferred, FrontsHold-after, NoneReopens-transferred}
use Rattle.acta_sets.proofs.Filed.{AreFiled-same}
use Rattle.acta_sets.proofs.table.OpTable.transfer_all.Given.{Over}
use Rattle.acta_sets.proofs.table.OpTable.transfer_all.Goals.{After-drop-given-2}
use Rattle.acta_sets.proofs.table.OpTable.transfer_all.Goals as goal

pub returns-then-t-u-clause-transferred : goal.returns-then-t-u-clause-transferred
returns-then-t-u-clause-transferred g c = transferred_same c.args.t c.args.u c.args.self.now c.if-t-u.true

pub invariant_of-self-in_err-share_held : goal.invariant_of-self-in_err-share_held
invariant_of-self-in_err-share_held g c = record {
  few = c.self.invariant.few;
  among = c.in_err-share_held.ensures.still c.self.invariant.among;
  held = AreHeld-same c.self.inside.items.items c.self.inside.held.items c.share_held.new.held.items c.self.invariant.held c.in_err-share_held.ensures.err;
  filed = AreFiled-same c.self.inside.items.items c.self.inside.counts c.make_room.new.counts c.self.invariant.filed c.make_room.ensures.same;
  coarse = c.self.invariant.coarse;
  coarse_fronts = c.self.invariant.coarse_fronts;
  fine = c.self.invariant.fine;
  fine_fronts = c.self.invariant.fine_fronts;
}

pub transfer_each-requires-clause-filed : goal.transfer_each-requires-clause-filed
transfer_each-requires-clause-filed g c = AreFiled-same c.self.inside.items.items c.self.inside.counts c.make_room.new.counts c.self.invariant.filed c.make_room.ensures.same

pub transfer_each-requires-clause-short : goal.transfer_each-requires-clause-short
transfer_each-requires-clause-short g c =
    let items = c.self.inside.items.items in
    let same = c.as_slice-2.ensures.value ∙ c.in_ok-given.ensures.items ∙ c.list_of.ensures ∙ c.self.invariant.held c.args.t.0 ∙ sym (numbers_by-all (is_held c.args.t.0) 1 items) in
    omega (arith, ap length same, length-numbers_by (λ _ i. is_held c.args.t.0 i) 1 items, c.self.invariant.few)

-- the list of t has the operations that it holds in progress
given_is : (g : Over) (c : After-drop-given-2 g) → c.as_slice.result.now ≡ numbers_by (λ _ i. is_held c.args.t.0 i) 1 c.self.inside.items.items
given_is g c =
    c.as_slice.ensures.value ∙ c.in_ok-given.ensures.items ∙ c.list_of.ensures ∙ c.self.invariant.held c.args.t.0
    ∙ sym (numbers_by-all (is_held c.args.t.0) 1 c.self.inside.items.items)

items_are : (g : Over) (c : After-drop-given-2 g) → c.transfer_each.new.items.items ≡ transferred c.args.t.0 c.args.u c.self.inside.items.items
items_are g c =
    c.transfer_each.ensures.items
    ∙ each-given (λ _ i. is_held c.args.t.0 i) c.args.t.0 c.args.u c.self.inside.items.items c.as_slice-2.result.now (λ k i held. held) (c.as_slice-2.ensures.value ∙ sym c.as_slice.ensures.value ∙ given_is g c)
    ∙ changed-transferred c.args.t.0 c.args.u 1 c.self.inside.items.items

pub invariant_of-self-2 : goal.invariant_of-self-2
invariant_of-self-2 g c =
    let items = c.self.inside.items.items in
    let same = items_are g c in
    let long = ap length same ∙ length-map items (transferred_op c.args.t.0 c.args.u) in
    record {
      few = omega (arith, long, c.self.invariant.few);
      held = subst (λ xs. AreHeld xs c.clear_held.new.held.items) (sym same)
          (AreHeld-transferred items c.self.inside.held.items c.share_held.new.held.items c.clear_held.new.held.items c.args.t c.args.u c.as_slice.result.now c.self.invariant.held c.if-t-u.false (given_is g c) c.in_ok-share_held.ensures.ok c.clear_held.ensures.lists);
      among = c.clear_held.ensures.among (c.in_ok-share_held.ensures.among c.self.invariant.among);
      filed = c.transfer_each.ensures.filed;
      coarse = subst (λ xs. AreListed coarse xs (in_table c.self.inside.coarse.items)) (sym same) (AreListed-transferred coarse items (in_table c.self.inside.coarse.items) c.args.t.0 c.args.u c.self.invariant.coarse);
      coarse_fronts = subst (λ xs. FrontsHold xs (in_table c.self.inside.coarse.items)) (sym same) (FrontsHold-after items (transferred c.args.t.0 c.args.u items) (in_table c.self.inside.coarse.items) (NoneReopens-transferred c.args.t.0 c.args.u items) c.self.invariant.coarse_fronts);
      fine = subst (λ xs. AreListed listed_fine xs (in_map c.self.inside.fine)) (sym same) (AreListed-transferred listed_fine items (in_map c.self.inside.fine) c.args.t.0 c.args.u c.self.invariant.fine);
      fine_fronts = subst (λ xs. FrontsHold xs (in_map c.self.inside.fine)) (sym same) (FrontsHold-after items (transferred c.args.t.0 c.args.u items) (in_map c.self.inside.fine) (NoneReopens-transferred c.args.t.0 c.args.u items) c.self.invariant.fine_fronts);
    }

pub returns-clause-transferred : goal.returns-clause-transferred
returns-clause-transferred g c = items_are g c ∙ ap (transferred c.args.t.0 c.args.u) c.self.view_is
