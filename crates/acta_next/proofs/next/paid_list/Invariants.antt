use Rattle.std.proofs.Common.{◌≡◌, [], drop}
use Rattle.acta_next.specs.Next.{onto_list, paid_item}
use Rattle.acta_next.proofs.next.paid_list.Given as goal

abbrev pub invariant-loop-owed : goal.invariant-loop-owed
invariant-loop-owed g l =
    onto_list (paid_item l.event) l.list.items (drop l.owed-index l.debts) ≡ onto_list (paid_item l.event) [] l.debts
