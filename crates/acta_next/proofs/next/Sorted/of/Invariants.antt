use Rattle.std.proofs.Common.{◌≡◌, [], drop}
use Rattle.acta_next.specs.Next.{admitted_item, onto_list, refused_item}
use Rattle.acta_next.proofs.next.Sorted.of.Given as goal

abbrev pub invariant-loop-event : goal.invariant-loop-event
invariant-loop-event g l =
    record {
      may : onto_list (admitted_item l.machine) l.sorted.may.items (drop l.event-index l.tried) ≡ onto_list (admitted_item l.machine) [] l.tried;
      not : onto_list (refused_item l.machine) l.sorted.not.items (drop l.event-index l.tried) ≡ onto_list (refused_item l.machine) [] l.tried;
    }
