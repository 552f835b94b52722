use Rattle.std.proofs.Common.{◌≡◌, ◌<◌, ◌≤◌, ◌-◌, length, take, get_or}
use Rattle.acta_deps.specs.Deps.{status_of}
use Rattle.acta_deps.specs.Statuses.{with_status}
use Rattle.acta_deps.specs.inside.BlockKinds.{would_owe_both}
use Rattle.acta_deps.proofs.Walks.{least_of}
use Rattle.acta_deps.proofs.deps.Deps.clashing.Given as goal

-- the least so far, combined with the edges up to here, gives the least of all
abbrev pub invariant-loop-place : goal.invariant-loop-place
invariant-loop-place g l =
    record {
      within : l.place ≤ length l.self.edges;
      on : 0 < l.place → get_or l.parties (l.place - 1) 0 ≡ l.change.txn.0;
      rest : least_of (would_owe_both (with_status (status_of l.self) l.change.txn.0 l.change.status) l.self.edges l.change.txn.0) l.least (take l.place l.self.edges) ≡ least_of (would_owe_both (with_status (status_of l.self) l.change.txn.0 l.change.status) l.self.edges l.change.txn.0) l.initial.least l.self.edges;
    }

abbrev pub decreases-loop-place : goal.decreases-loop-place
decreases-loop-place g l = l.place
