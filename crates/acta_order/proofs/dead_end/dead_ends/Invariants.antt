use Rattle.std.proofs.Common.{[], get_or}
use Rattle.std.specs.Prelude.{All}
use Rattle.acta_values.specs.KeptValues.{kinds_of}
use Rattle.acta_order.specs.Blocks.{IsStuck}
use Rattle.acta_order.specs.Earlier.{limit}
use Rattle.acta_order.specs.Search.{values_at}
use Rattle.acta_order.proofs.dead_end.dead_ends.Given as goal

-- those so far are dead ends
abbrev pub invariant-loop-positions : goal.invariant-loop-positions
invariant-loop-positions g l = All (IsStuck (values_at {A = g.row.A.Denot} (kinds_of l.model.objects) []) (λ t. get_or l.groups t []) (limit l.earlier) l.ts) l.ends.items
