use Rattle.std.proofs.Common.{◌≡◌, ◌+◌, ◌-◌, [], length, get_or}
use Rattle.acta_values.specs.KeptValues.{kinds_of}
use Rattle.acta_order.specs.Earlier.{limit}
use Rattle.acta_order.specs.Memos.{AreDead}
use Rattle.acta_order.specs.Search.{values_at}
use Rattle.acta_order.proofs.Searching.{IsSearching}
use Rattle.acta_order.proofs.Visiting.{AreVisited}
use Rattle.acta_order.proofs.search.search.Given as goal

-- what is placed is done and plays, and all before the next position is tried
abbrev pub invariant-loop-states : goal.invariant-loop-states
invariant-loop-states g l = record {
  searching : IsSearching g.row.A.Denot (kinds_of l.model.objects) (λ t. get_or l.groups t []) (limit l.earlier) l.ts l.path.stack l.replay l.low l.next;
  dead : AreDead (values_at {A = g.row.A.Denot} (kinds_of l.model.objects) []) (λ t. get_or l.groups t []) (limit l.earlier) l.ts l.memo;
  visited : AreVisited (values_at {A = g.row.A.Denot} (kinds_of l.model.objects) []) (λ t. get_or l.groups t []) (limit l.earlier) l.ts l.path.stack l.next l.states;
  size : l.path.size ≡ length l.ts;
}

-- one state more, or one position less
abbrev pub decreases-loop-states : goal.decreases-loop-states
decreases-loop-states g l = (l.most_states - l.states) + (l.most_states - l.states) + length l.path.stack
