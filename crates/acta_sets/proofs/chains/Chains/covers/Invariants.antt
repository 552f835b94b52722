use Rattle.std.specs.Prelude.{◌≡◌, ◌+◌, ℕ, true}
use Rattle.acta_sets.specs.Chains.{is_passed}
use Rattle.acta_sets.specs.Lineages.{depth_in, is_in_line}
use Rattle.acta_sets.specs.inside.Listing.{passes_at}
use Rattle.acta_sets.proofs.chains.Chains.covers.Given as goal

-- what `lowest` and its ancestors hold, `low` and its ancestors hold, and the line of `at` is part of that of t
abbrev pub invariant-loop-low : goal.invariant-loop-low
invariant-loop-low g l = record {
  low : (n : ℕ) → passes_at (is_passed l.self.lineage l.fn.lowest) l.table n ≡ true → passes_at (is_passed l.self.lineage l.low) l.table n ≡ true;
  at : (x : ℕ) → is_in_line l.self.lineage x l.at ≡ true → is_in_line l.self.lineage x l.fn.t ≡ true;
}

abbrev pub decreases-loop-low : goal.decreases-loop-low
decreases-loop-low g l = depth_in l.self.lineage l.low + depth_in l.self.lineage l.at
