use Rattle.std.proofs.Common.{◌≡◌, drop}
use Rattle.acta_next.specs.Next.{untried_onto}
use Rattle.acta_next.proofs.lists.push_untried.Given as goal

abbrev pub invariant-loop-kind : goal.invariant-loop-kind
invariant-loop-kind g l =
    untried_onto l.machine l.active l.t l.list.items (drop l.kind-index l.kinds) ≡ untried_onto l.machine l.active l.t l.initial.list.items l.kinds
