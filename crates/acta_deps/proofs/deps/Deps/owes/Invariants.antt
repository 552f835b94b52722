use Rattle.std.proofs.Common.{◌≡◌, ◌<◌, ◌≤◌, ◌-◌, length, take, get_or}
use Rattle.std.specs.List.{list_any}
use Rattle.acta_deps.specs.Deps.{status_of}
use Rattle.acta_deps.specs.Statuses.{with_status}
use Rattle.acta_deps.specs.inside.BlockKinds.{owes}
use Rattle.acta_deps.proofs.deps.Deps.owes.Given as goal

-- some edge owes exactly if an edge up to here does
abbrev pub invariant-loop-place : goal.invariant-loop-place
invariant-loop-place g l =
    record {
      within : l.place ≤ length l.edges;
      on : 0 < l.place → get_or l.parties (l.place - 1) 0 ≡ l.u.0;
      rest : list_any (owes l.missing (with_status (status_of l.self) l.change.txn.0 l.change.status) l.u.0) (take l.place l.edges) ≡ list_any (owes l.missing (with_status (status_of l.self) l.change.txn.0 l.change.status) l.u.0) l.edges;
    }

abbrev pub decreases-loop-place : goal.decreases-loop-place
decreases-loop-place g l = l.place
