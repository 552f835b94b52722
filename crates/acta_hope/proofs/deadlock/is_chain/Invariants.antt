use Rattle.std.proofs.Common.{◌≡◌, ℕ, ◌+◌, ◌<◌, ◌≤◌, true, get_or}
use Rattle.acta_hope.specs.Deadlocks.{is_linked}
use Rattle.acta_hope.proofs.deadlock.is_chain.Given as goal

-- each before this one waits for the next
abbrev pub invariant-loop-k : goal.invariant-loop-k
invariant-loop-k l = record {
  from : 1 ≤ l.k;
  so_far : (m : ℕ) → m + 1 < l.k → is_linked l.waits (get_or l.places m 0) (get_or l.places (m + 1) 0) ≡ true;
}
