use Rattle.acta_locked.proofs.Handing.{outcome-of}
use Rattle.acta_locked.proofs.run.Run.work.Goals as goal

pub returns : goal.returns
returns g c =
    let reported = c.work-outcome.ensures in
    outcome-of (g.G.Gate.may_stop c.args.self.now.gate.now) (g.G.Gate.may_pass c.args.self.now.gate.now) (g.G.Gate.may_go_on c.args.self.now.gate.now) g.J.Job.may_stop g.J.Job.may_pass g.J.Job.may_go_on c.args.seat c.args.script.now c.requires.of_gate
    _ c.work-outcome.result c.requires.of_seat reported.report reported.let_on reported.gave_up reported.stopped
