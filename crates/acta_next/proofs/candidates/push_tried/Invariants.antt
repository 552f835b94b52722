use Rattle.std.proofs.Common.{◌≡◌, drop}
use Rattle.acta_next.specs.Candidates.{tried_onto}
use Rattle.acta_next.proofs.candidates.push_tried.Given as goal

abbrev pub invariant-loop-kind : goal.invariant-loop-kind
invariant-loop-kind g l =
    tried_onto l.machine l.active l.u l.t l.events.items (drop l.kind-index l.kinds)
    ≡ tried_onto l.machine l.active l.u l.t l.initial.events.items l.kinds
