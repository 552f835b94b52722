use Rattle.std.proofs.Common.{arith, ap, subst, sym}
use Rattle.acta_machine.specs.Table.{State}
use Rattle.acta_debug.specs.inside.Shown.{AreFronts}
use Rattle.acta_debug.proofs.Standing.{inside-at}
use Rattle.acta_debug.proofs.debugger.Debugger.at_start.Goals as goal

pub invariant_of-result : goal.invariant_of-result
invariant_of-result g c =
    let items = c.args.history.items in
    let fresh = c.in-Ok.ensures.fresh in
    record {
      stands = inside-at c.args.model items 0 c.in-Ok.machine c.requires.whole (omega arith) c.requires.few fresh c.in-Ok.ensures.follows;
      fronts = subst (λ m. AreFronts m items c.args.checkpoints.items) (sym (ap (λ (s : State g.row.A.Denot). s.model) fresh)) c.requires.fronts;
    }
