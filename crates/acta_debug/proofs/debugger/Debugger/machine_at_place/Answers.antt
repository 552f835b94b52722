use Rattle.std.proofs.Common.{◌∙◌, ap, arith, length, subst}
use Rattle.std.specs.Prelude.{slice_range}
use Rattle.acta_machine.specs.Table.{after_all}
use Rattle.acta_debug.specs.Histories.{IsHistory, events_in}
use Rattle.acta_debug.specs.Sessions.{Session}
use Rattle.acta_debug.proofs.Fronts.{front-goes}
use Rattle.acta_debug.proofs.debugger.Debugger.machine_at_place.Goals as goal

pub returns-in-Ok-clause-kept : goal.returns-in-Ok-clause-kept
returns-in-Ok-clause-kept g c =
    let q = c.args.self.now in
    let whole = subst (λ (q : Session g.row.A.Denot). IsHistory q.model q.history) c.self.view_is c.self.invariant.stands.whole in
    let taken = length c.history-taken.result.now in
    let size = ap length c.history-taken.ensures.history in
    let items = c.as_slice.ensures.value ∙ ap (λ (q : Session g.row.A.Denot). q.history) c.self.view_is in
    front-goes q.model q.history whole c.in_ok-machine.machine c.take_events.new.machine taken c.args.n c.in_ok-machine.ensures.front size (omega (arith, size, c.in_ok-machine.ensures.before))
    (c.in-Ok.ensures.machine ∙ ap (λ h. after_all c.in_ok-machine.machine (events_in (slice_range h taken c.args.n))) items)
