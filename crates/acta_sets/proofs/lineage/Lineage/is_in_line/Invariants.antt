use Rattle.std.specs.Prelude.{◌≡◌, ℕ, true}
use Rattle.acta_sets.specs.Lineages.{depth_in, is_in_line}
use Rattle.acta_sets.proofs.lineage.Lineage.is_in_line.Given as goal

-- who is in the line of the ancestor that was reached is in the line of t
abbrev pub invariant-loop-at : goal.invariant-loop-at
invariant-loop-at g l = (x : ℕ) → is_in_line l.self x l.at ≡ true → is_in_line l.self x l.fn.t ≡ true

abbrev pub decreases-loop-at : goal.decreases-loop-at
decreases-loop-at g l = depth_in l.self l.at
