use Rattle.std.specs.Prelude.{◌≤◌, ℕ, [], get_or, length}
use Rattle.std.proofs.Common.{ap, sym, subst, ◌∙◌}
use Rattle.acta_table.specs.declared.limits.TheConstants.{MOST_EVENTS}
use Rattle.acta_sets.specs.inside.Held.{AreHeld, has, has_any}
use Rattle.acta_sets.specs.inside.Filing.{AreFiled}
use Rattle.acta_sets.specs.inside.Modes.{coarse, listed_fine}
use Rattle.acta_sets.specs.inside.Listing.{AreListed, FrontsHold, in_table, in_map}
use Rattle.acta_sets.proofs.Access.{AreHeld-same}
use Rattle.acta_sets.proofs.Filed.{AreFiled-same}
use Rattle.acta_sets.proofs.Listed.{AreListed-same, FrontsHold-same}
use Rattle.acta_sets.proofs.table.OpTable.copy.Goals as goal

pub returns : goal.returns
returns g c = c.in_ok-from_slice.ensures.items ∙ c.operations.ensures.operations

pub invariant_of-result : goal.invariant_of-result
invariant_of-result g c =
    let inside = c.self.inside in
    let items = inside.items.items in
    let true_of = c.self.invariant in
    let back = sym (c.in_ok-from_slice.ensures.items ∙ c.operations.ensures.operations ∙ sym c.self.view_is) in
    let held = λ (t : ℕ). ap (λ ls. get_or ls t []) c.in_ok-copied.ensures in
    let first = c.in_ok-copied-3 in
    let second = c.in_ok-copied-4 in
    record {
      few = subst (λ xs. length xs ≤ MOST_EVENTS) back true_of.few;
      held = subst (λ xs. AreHeld xs c.in_ok-copied.field-0.items) back (AreHeld-same items inside.held.items c.in_ok-copied.field-0.items true_of.held held);
      among = λ t some. ap (λ keys. has keys t) c.in_ok-copied_holders.ensures ∙ true_of.among t (sym (ap has_any (held t)) ∙ some);
      filed = subst (λ xs. AreFiled xs c.in_ok-copied-2.field-0) back (AreFiled-same items inside.counts c.in_ok-copied-2.field-0 true_of.filed c.in_ok-copied-2.ensures);
      coarse = subst (λ xs. AreListed coarse xs (in_table first.field-0.items)) back (AreListed-same coarse items (in_table inside.coarse.items) (in_table first.field-0.items) true_of.coarse first.ensures.numbers);
      coarse_fronts = subst (λ xs. FrontsHold xs (in_table first.field-0.items)) back (FrontsHold-same items (in_table inside.coarse.items) (in_table first.field-0.items) true_of.coarse_fronts first.ensures.numbers first.ensures.fronts);
      fine = subst (λ xs. AreListed listed_fine xs (in_map second.field-0)) back (AreListed-same listed_fine items (in_map inside.fine) (in_map second.field-0) true_of.fine second.ensures.numbers);
      fine_fronts = subst (λ xs. FrontsHold xs (in_map second.field-0)) back (FrontsHold-same items (in_map inside.fine) (in_map second.field-0) true_of.fine_fronts second.ensures.numbers second.ensures.fronts);
    }
