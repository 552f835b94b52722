use Rattle.std.proofs.Common.{◌≡◌, ℕ, ◌+◌, ◌<◌, ◌≤◌, true, get_or}
use Rattle.acta_explore.specs.inside.Circles.{is_linked}
use Rattle.acta_explore.proofs.circle.is_chain.Given as goal

-- each before this one is linked to the next
abbrev pub invariant-loop-k : goal.invariant-loop-k
invariant-loop-k l = record {
  from : 1 ≤ l.k;
  so_far : (m : ℕ) → m + 1 < l.k → is_linked l.links (get_or l.chain m 0) (get_or l.chain (m + 1) 0) ≡ true;
}
