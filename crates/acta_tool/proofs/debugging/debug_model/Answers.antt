use Rattle.std.proofs.Common.{◌≡◌, sym, subst, ◌∙◌}
use Rattle.std.specs.Prelude.{IfNone, IfOk, Option}
use Rattle.acta_io.specs.declared.input.BadLine.{BadLine}
use Rattle.acta_io.specs.declared.reports.Report.{Report}
use Rattle.acta_io.specs.Reports.{Output}
use Rattle.acta_io.specs.Sections.{script_commands}
use Rattle.acta_io.specs.inside.Reports.{output_of}
use Rattle.acta_io.specs.inside.Sections.{parsed_of}
use Rattle.acta_tool.specs.Output.{debugged_on}
use Rattle.acta_tool.proofs.DebugOutputs.{reported_faulty, reported_whole}
use Rattle.acta_tool.proofs.debugging.debug_model.Goals as goal

pub returns-in-Some : goal.returns-in-Some
returns-in-Some g c =
    subst (λ (out : Output). IfOk c.refuse_line.result (λ (report : Report _). output_of report ≡ out))
    (sym (reported_faulty c.args.model c.args.input.now (parsed_of c.in_ok-script.script.events) c.in_ok-script.ensures.events c.in-Some.stop c.in-Some.is))
    c.refuse_line.ensures

pub returns-in-None : goal.returns-in-None
returns-in-None g c =
    let commands = subst (λ (o : Option BadLine). IfNone o (parsed_of c.in_ok-script.script.commands ≡ script_commands c.args.model c.args.input.now)) c.in-None.is c.in_ok-script.ensures.commands in
    subst (λ (out : Output). IfOk c.report_commands.result (λ (report : Report _). output_of report ≡ out))
    ((λ i. debugged_on c.args.model (c.as_slice.ensures.value i) (parsed_of c.in_ok-script.script.commands))
    ∙ sym (reported_whole c.args.model c.args.input.now (parsed_of c.in_ok-script.script.events) c.in_ok-script.ensures.events (parsed_of c.in_ok-script.script.commands) c.in-None.is commands))
    c.report_commands.ensures
