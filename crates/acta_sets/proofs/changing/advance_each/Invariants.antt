use Rattle.std.proofs.Common.{◌≡◌}
use Rattle.acta_sets.specs.declared.mode.ModeKey.{ModeKey}
use Rattle.acta_sets.specs.inside.Listing.{numbers_in, FrontsHold, in_table, in_map}
use Rattle.acta_sets.proofs.changing.advance_each.Given as goal

abbrev pub invariant-loop-number : goal.invariant-loop-number
invariant-loop-number g l =
    record {
      coarse : (q : ModeKey) → numbers_in (in_table l.coarse.items) q ≡ numbers_in (in_table l.fn.coarse.items) q;
      fine : (q : ModeKey) → numbers_in (in_map l.fine) q ≡ numbers_in (in_map l.fn.fine) q;
      coarse_fronts : FrontsHold l.items (in_table l.coarse.items);
      fine_fronts : FrontsHold l.items (in_map l.fine);
    }
