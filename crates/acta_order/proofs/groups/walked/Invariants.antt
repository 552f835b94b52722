use Rattle.std.proofs.Common.{◌≡◌, take, drop}
use Rattle.acta_order.proofs.groups.walked.Given as goal

-- the walk has taken as many items as there were turns
abbrev pub invariant-loop : goal.invariant-loop
invariant-loop g l = l.walk ≡ record { model = l.model; front = take l.counter l.kept; ahead = drop l.counter l.kept }
