use Rattle.std.specs.Prelude.{◌≡◌, ◌&&◌, length}
use Rattle.std.proofs.Common.{arith, ap, sym, subst, ◌∙◌}
use Rattle.acta_table.specs.Sets.{is_named}
use Rattle.acta_sets.specs.Operations.{transferred_of, is_held}
use Rattle.acta_sets.specs.inside.Held.{AreHeld, numbers_by, named_of}
use Rattle.acta_sets.proofs.Access.{length-numbers_by, each-given, changed-transferred_of, transferred_of-same, filter-numbers, length-transferred_of, named_held, AreHeld-same, AreHeld-transferred_of}
use Rattle.acta_sets.specs.inside.Modes.{coarse, listed_fine}
use Rattle.acta_sets.specs.inside.Listing.{AreListed, FrontsHold, in_table, in_map}
use Rattle.acta_sets.proofs.Listed.{AreListed-transferred_of, FrontsHold-after, NoneReopens-transferred_of}
use Rattle.acta_sets.proofs.Among.{AreAmong-fewer}
use Rattle.acta_sets.proofs.Filed.{AreFiled-same}
use Rattle.acta_sets.proofs.table.OpTable.transfer.Given.{Over}
use Rattle.acta_sets.proofs.table.OpTable.transfer.Goals.{After-drop-named-2}
use Rattle.acta_sets.proofs.table.OpTable.transfer.Goals as goal

pub returns-then-from-u-clause-transferred : goal.returns-then-from-u-clause-transferred
returns-then-from-u-clause-transferred g c = transferred_of-same c.args.from c.args.u c.args.ops.now c.args.self.now c.if-from-u.true

pub invariant_of-self : goal.invariant_of-self
invariant_of-self g c = record {
  few = c.self.invariant.few;
  held = c.self.invariant.held;
  among = c.self.invariant.among;
  filed = AreFiled-same c.self.inside.items.items c.self.inside.counts c.make_room.new.counts c.self.invariant.filed c.make_room.ensures.same;
  coarse = c.self.invariant.coarse;
  coarse_fronts = c.self.invariant.coarse_fronts;
  fine = c.self.invariant.fine;
  fine_fronts = c.self.invariant.fine_fronts;
}

pub invariant_of-self-in_err-share_held : goal.invariant_of-self-in_err-share_held
invariant_of-self-in_err-share_held g c = record {
  few = c.self.invariant.few;
  among = c.in_err-share_held.ensures.still c.self.invariant.among;
  held = AreHeld-same c.self.inside.items.items c.self.inside.held.items c.share_held.new.held.items c.self.invariant.held c.in_err-share_held.ensures.err;
  filed = AreFiled-same c.self.inside.items.items c.self.inside.counts c.make_room.new.counts c.self.invariant.filed c.make_room.ensures.same;
  coarse = c.self.invariant.coarse;
  coarse_fronts = c.self.invariant.coarse_fronts;
  fine = c.self.invariant.fine;
  fine_fronts = c.self.invariant.fine_fronts;
}

pub transfer_each-requires-clause-filed : goal.transfer_each-requires-clause-filed
transfer_each-requires-clause-filed g c = AreFiled-same c.self.inside.items.items c.self.inside.counts c.make_room.new.counts c.self.invariant.filed c.make_room.ensures.same

pub transfer_each-requires-clause-short : goal.transfer_each-requires-clause-short
transfer_each-requires-clause-short g c =
    let items = c.self.inside.items.items in
    let same =
    c.as_slice-2.ensures.value ∙ c.in_ok-named.ensures ∙ ap (named_of c.args.ops.now) (c.list_of.ensures ∙ c.self.invariant.held c.args.from.0)
    ∙ filter-numbers (is_named c.args.ops.now) (is_held c.args.from.0) 1 items in
    omega (arith, ap length same, length-numbers_by (λ k i. is_held c.args.from.0 i && is_named c.args.ops.now k) 1 items, c.self.invariant.few)

-- the named operations among those that `from` holds in progress
given_is : (g : Over) (c : After-drop-named-2 g) → c.as_slice.result.now ≡ numbers_by (λ k i. is_held c.args.from.0 i && is_named c.args.ops.now k) 1 c.self.inside.items.items
given_is g c =
    c.as_slice.ensures.value ∙ c.in_ok-named.ensures ∙ ap (named_of c.args.ops.now) (c.list_of.ensures ∙ c.self.invariant.held c.args.from.0)
    ∙ filter-numbers (is_named c.args.ops.now) (is_held c.args.from.0) 1 c.self.inside.items.items

items_are : (g : Over) (c : After-drop-named-2 g) → c.transfer_each.new.items.items ≡ transferred_of c.args.from.0 c.args.ops.now c.args.u c.self.inside.items.items
items_are g c =
    c.transfer_each.ensures.items
    ∙ each-given (λ k i. is_held c.args.from.0 i && is_named c.args.ops.now k) c.args.from.0 c.args.u c.self.inside.items.items c.as_slice-2.result.now (named_held c.args.from.0 c.args.ops.now) (c.as_slice-2.ensures.value ∙ sym c.as_slice.ensures.value ∙ given_is g c)
    ∙ changed-transferred_of c.args.from.0 c.args.ops.now c.args.u 1 c.self.inside.items.items

pub invariant_of-self-2 : goal.invariant_of-self-2
invariant_of-self-2 g c =
    let items = c.self.inside.items.items in
    let same = items_are g c in
    let long = ap length same ∙ length-transferred_of c.args.from.0 c.args.ops.now c.args.u 1 items in
    record {
      few = omega (arith, long, c.self.invariant.few);
      held = subst (λ xs. AreHeld xs c.leave_out_at.new.held.items) (sym same)
          (AreHeld-transferred_of items c.self.inside.held.items c.share_held.new.held.items c.leave_out_at.new.held.items c.args.from c.args.u c.args.ops.now c.as_slice.result.now c.self.invariant.held c.if-from-u.false (given_is g c) c.in_ok-share_held.ensures.ok c.leave_out_at.ensures);
      among = AreAmong-fewer c.share_held.new.held.items c.leave_out_at.new.held.items c.share_held.new.holders.keys c.args.from.0 c.args.ops.now c.leave_out_at.ensures (c.in_ok-share_held.ensures.among c.self.invariant.among);
      filed = c.transfer_each.ensures.filed;
      coarse = subst (λ xs. AreListed coarse xs (in_table c.self.inside.coarse.items)) (sym same) (AreListed-transferred_of coarse items (in_table c.self.inside.coarse.items) c.args.from.0 c.args.ops.now c.args.u c.self.invariant.coarse);
      coarse_fronts = subst (λ xs. FrontsHold xs (in_table c.self.inside.coarse.items)) (sym same) (FrontsHold-after items (transferred_of c.args.from.0 c.args.ops.now c.args.u items) (in_table c.self.inside.coarse.items) (NoneReopens-transferred_of c.args.from.0 c.args.ops.now c.args.u items) c.self.invariant.coarse_fronts);
      fine = subst (λ xs. AreListed listed_fine xs (in_map c.self.inside.fine)) (sym same) (AreListed-transferred_of listed_fine items (in_map c.self.inside.fine) c.args.from.0 c.args.ops.now c.args.u c.self.invariant.fine);
      fine_fronts = subst (λ xs. FrontsHold xs (in_map c.self.inside.fine)) (sym same) (FrontsHold-after items (transferred_of c.args.from.0 c.args.ops.now c.args.u items) (in_map c.self.inside.fine) (NoneReopens-transferred_of c.args.from.0 c.args.ops.now c.args.u items) c.self.invariant.fine_fronts);
    }

pub returns-clause-transferred : goal.returns-clause-transferred
returns-clause-transferred g c = items_are g c ∙ ap (transferred_of c.args.from.0 c.args.ops.now c.args.u) c.self.view_is
