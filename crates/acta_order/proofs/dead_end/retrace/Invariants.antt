use Rattle.std.proofs.Common.{[], get_or}
use Rattle.acta_order.specs.Blocks.{IsReplayed}
use Rattle.acta_order.specs.Earlier.{limit}
use Rattle.acta_order.proofs.dead_end.retrace.Given as goal

-- what is placed so far is done
abbrev pub invariant-loop-c : goal.invariant-loop-c
invariant-loop-c g l = IsReplayed g.row.A.Denot l.initial.replay.kinds (λ t. get_or l.groups t []) (limit l.earlier) l.ts l.path l.replay
