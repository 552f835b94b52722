use Rattle.std.proofs.Common.{◌≡◌, ◌++◌, drop}
use Rattle.acta_next.specs.Next.{next_of_each}
use Rattle.acta_next.proofs.next.push_next_of_each.Given as goal

abbrev pub invariant-loop-t : goal.invariant-loop-t
invariant-loop-t g l =
    l.text.items ++ next_of_each l.machine l.active l.u (drop l.t-index l.list) ≡ l.initial.text.items ++ next_of_each l.machine l.active l.u l.list
