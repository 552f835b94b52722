-- The invariant of the indexes.
use Rattle.std.specs.Prelude.{◌≤◌, ℕ, List, length}
use Rattle.std.specs.HashMap.{HashMap}
use Rattle.smallvec.specs.SmallVec.{SmallVec}
use Rattle.acta_table.specs.declared.limits.TheConstants.{MOST_EVENTS}
use Rattle.acta_sets.specs.declared.held_op.HeldOp.{HeldOp}
use Rattle.acta_sets.specs.declared.mode.ModeKey.{ModeKey}
use Rattle.acta_sets.specs.inside.Held.{AreHeld, AreAmong}
use Rattle.acta_sets.specs.inside.Filing.{AreFiled}
use Rattle.acta_sets.specs.inside.Modes.{coarse, listed_fine}
use Rattle.acta_sets.specs.declared.listing.ModeList.{ModeList}
use Rattle.acta_sets.specs.declared.counts.Counts.{Counts}
use Rattle.acta_sets.specs.inside.Listing.{AreListed, FrontsHold, in_map, in_table}

-- the indexes agree with the operations: held lists, holders, counts and mode lists
abbrev pub IsIndexed : {A S : Type 0} → List HeldOp → List (SmallVec ℕ) → List ℕ → Counts A → List (ModeList A) → HashMap ModeKey (ModeList A) S → Type 0
IsIndexed items lists holders counts first second = record {
  few : length items ≤ MOST_EVENTS;
  held : AreHeld items lists;
  among : AreAmong lists holders;
  filed : AreFiled items counts;
  coarse : AreListed coarse items (in_table first);
  coarse_fronts : FrontsHold items (in_table first);
  fine : AreListed listed_fine items (in_map second);
  fine_fronts : FrontsHold items (in_map second);
}
