use Rattle.std.proofs.Common.{ap, ◌∙◌}
use Rattle.acta_debug.specs.Stops.{run_to_stop, stop_of}
use Rattle.acta_debug.proofs.Cursors.{at_place, settled}
use Rattle.acta_debug.proofs.cursor.Cursor.run.Goals as goal

pub returns-clause-stop : goal.returns-clause-stop
returns-clause-stop g c =
    c.in_ok-stop.ensures.stop
    ∙ ap stop_of (settled c.self.inside.debugger c.self.inside.at c.settle.new.self c.args.self.now.session c.self.view_is c.in_ok-settle.ensures.ok)

pub returns-clause-ok : goal.returns-clause-ok
returns-clause-ok g c =
    at_place c.run.new.self c.at-self-inside.result (run_to_stop c.args.self.now.session) c.at-self-inside.ensures.at
    (c.in_ok-stop.ensures.ok ∙ ap run_to_stop (settled c.self.inside.debugger c.self.inside.at c.settle.new.self c.args.self.now.session c.self.view_is c.in_ok-settle.ensures.ok))
