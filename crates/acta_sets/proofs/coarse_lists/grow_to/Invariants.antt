use Rattle.std.specs.Prelude.{◌≡◌, ◌≤◌, length}
use Rattle.acta_sets.specs.declared.mode.ModeKey.{ModeKey}
use Rattle.acta_sets.specs.inside.Listing.{in_table, numbers_in, front_in}
use Rattle.acta_sets.proofs.coarse_lists.grow_to.Given as goal

-- the new lists make no difference
abbrev pub invariant-loop : goal.invariant-loop
invariant-loop g l = record {
  numbers : (q : ModeKey) → numbers_in (in_table l.lists.items) q ≡ numbers_in (in_table l.initial.lists.items) q;
  fronts : (q : ModeKey) → front_in (in_table l.lists.items) q ≡ front_in (in_table l.initial.lists.items) q;
  long : l.counter ≤ length l.lists.items;
}
