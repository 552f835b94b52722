use Rattle.std.proofs.Common.{ap, ◌∙◌}
use Rattle.acta_machine.specs.Table.{run_state}
use Rattle.acta_tool.proofs.Serials.{stopped, ran}
use Rattle.acta_tool.proofs.serializing.serial_model.Goals as goal

pub returns-in-Some : goal.returns-in-Some
returns-in-Some g c =
    stopped c.args.model _ c.in_ok-read.read.parsed.items c.in_ok-read.read.stop c.in-Some.stop c.refuse_line.result c.in_ok-read.ensures.parsed c.in-Some.is c.refuse_line.ensures

pub returns : goal.returns
returns g c =
    ran c.args.model _ c.in_ok-read.read.parsed.items c.in_ok-read.read.stop c.in_ok-run.run'.machine c.serialize-report.result c.in_ok-read.ensures.parsed c.in_default.is
    (c.in_ok-run.ensures.machine ∙ ap (run_state c.args.model) c.as_slice.ensures.value) c.serialize-report.ensures
