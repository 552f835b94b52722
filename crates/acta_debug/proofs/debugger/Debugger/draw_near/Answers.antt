use Rattle.std.proofs.Common.{◌-◌, ◌∙◌, ap, sym, take}
use Rattle.acta_debug.specs.Sessions.{Session}
use Rattle.acta_debug.proofs.Fronts.{fronts-set, taken-front}
use Rattle.acta_debug.proofs.Replaying.{with_kept}
use Rattle.acta_debug.proofs.debugger.Debugger.draw_near.Goals as goal

pub invariant_of-self : goal.invariant_of-self
invariant_of-self g c =
    let inside = c.self.inside in
    let start = c.saturating_sub-start.result in
    let is = c.replace.ensures.after ∙ c.in_ok-machine.ensures.kept ∙ ap (λ (q : Session g.row.A.Denot). with_kept q.model (take start q.history)) (sym c.self.view_is) in
    record {
      stands = c.self.invariant.stands;
      fronts = fronts-set inside.machine.model inside.history.items inside.checkpoints.items (c.len-count.result - 1) c.replace.new.dest c.self.invariant.fronts
          (taken-front inside.machine.model inside.history.items start c.replace.new.dest is);
    }
