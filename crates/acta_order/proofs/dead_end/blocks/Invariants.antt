use Rattle.std.proofs.Common.{◌≡◌, [], get_or}
use Rattle.std.specs.Prelude.{All}
use Rattle.acta_order.specs.Blocks.{IsBlockedAt}
use Rattle.acta_order.specs.Earlier.{limit}
use Rattle.acta_order.specs.Search.{values_of}
use Rattle.acta_order.proofs.Blocking.{AreBlockedBelow}
use Rattle.acta_order.proofs.dead_end.blocks.Given as goal

-- a block for each position so far that could be placed next, and nothing is done
abbrev pub invariant-loop-c : goal.invariant-loop-c
invariant-loop-c g l = record {
  replay : l.replay ≡ l.initial.replay;
  blocks_are : All (IsBlockedAt (values_of {A = g.row.A.Denot} l.initial.replay) (λ t. get_or l.groups t []) (limit l.earlier) l.ts l.path.stack l.low) l.blocks.items;
  each : AreBlockedBelow (limit l.earlier) l.ts l.path.stack l.low l.blocks.items l.c;
}
