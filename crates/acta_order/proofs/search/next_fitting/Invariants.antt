use Rattle.std.proofs.Common.{◌≡◌, ◌<◌, ◌≤◌, ℕ, [], get_or}
use Rattle.acta_order.specs.Earlier.{limit}
use Rattle.acta_order.specs.Search.{values_of, IsPassed}
use Rattle.acta_order.proofs.search.next_fitting.Given as goal

-- those so far are passed over, and the replay is as it was
abbrev pub invariant-loop-c : goal.invariant-loop-c
invariant-loop-c g l = record {
  replay : l.replay ≡ l.initial.replay;
  passed : (j : ℕ) → l.from ≤ j → j < l.c → IsPassed (values_of {A = g.row.A.Denot} l.initial.replay) (λ t. get_or l.groups t []) (limit l.earlier) l.ts l.path.stack l.low j;
}
