use Rattle.std.proofs.Common.{◌-◌, ◌∙◌, ap, sym, subst}
use Rattle.acta_machine.specs.Table.{State}
use Rattle.acta_debug.specs.inside.Shown.{AreFronts, IsFront}
use Rattle.acta_debug.proofs.Fronts.{fronts-more, fronts-set, taken-front}
use Rattle.acta_debug.proofs.Standing.{stands}
use Rattle.acta_debug.proofs.debugger.Debugger.leave.Goals as goal

-- the machine itself has kept a prefix of the history
pub invariant_of-self-then-count-gt0 : goal.invariant_of-self-then-count-gt0
invariant_of-self-then-count-gt0 g c =
    let self = c.self.inside in
    let inside = c.self.invariant.stands in
    let list = subst (λ ts. AreFronts self.machine.model self.history.items ts) (sym c.reserve.ensures.items) c.self.invariant.fronts in
    let same = c.replace.ensures.after ∙ c.in_ok-checkpoint.ensures in
    let front = subst (λ t. IsFront self.machine.model self.history.items t) (sym same)
    (taken-front self.machine.model self.history.items self.at self.machine (stands self.machine self.history.items self.at inside)) in
    record {
      stands = inside;
      fronts = fronts-set self.machine.model self.history.items c.reserve.new.self.items (c.len-count.result - 1) c.replace.new.dest list front;
    }

pub invariant_of-self-else-replaces : goal.invariant_of-self-else-replaces
invariant_of-self-else-replaces g c =
    let self = c.self.inside in
    let inside = c.self.invariant.stands in
    let list = subst (λ ts. AreFronts self.machine.model self.history.items ts) (sym c.reserve.ensures.items) c.self.invariant.fronts in
    let front = subst (λ t. IsFront self.machine.model self.history.items t) (sym c.in_ok-checkpoint.ensures)
    (taken-front self.machine.model self.history.items self.at self.machine (stands self.machine self.history.items self.at inside)) in
    record {
      stands = inside;
      fronts = subst (λ ts. AreFronts self.machine.model self.history.items ts) (sym c.push_reserved.ensures.items)
          (fronts-more self.machine.model self.history.items c.reserve.new.self.items c.in_ok-checkpoint.checkpoint list front);
    }
