use Rattle.std.proofs.Common.{◌≡◌, subst}
use Rattle.acta_debug.specs.Histories.{state_at}
use Rattle.acta_debug.specs.Sessions.{Session}
use Rattle.acta_debug.proofs.Standing.{shows-state}
use Rattle.acta_debug.proofs.debugger.Debugger.machine.Goals as goal

pub returns-clause-machine : goal.returns-clause-machine
returns-clause-machine g c =
    let machine = c.self.inside.machine in
    subst (λ (s : Session g.row.A.Denot). machine ≡ state_at s.model s.history s.at) c.self.view_is (shows-state machine c.self.inside.history.items c.self.inside.at c.self.invariant.stands)
