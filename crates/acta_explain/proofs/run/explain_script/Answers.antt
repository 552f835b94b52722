use Rattle.std.proofs.Common.{◌≡◌, Bool, ◌||◌, IfOk, Option, Some, None, refl, ap, subst, ◌∙◌}
use Rattle.std.specs.Prelude.{IfNone, is_some}
use Rattle.acta_io.specs.declared.input.BadLine.{BadLine}
use Rattle.acta_io.specs.declared.reports.Report.{Report}
use Rattle.acta_io.specs.Input.{Parsed}
use Rattle.acta_io.specs.Sections.{script_commands, script_events}
use Rattle.acta_io.specs.inside.Sections.{parsed_of}
use Rattle.acta_script.specs.declared.commands.DebugCommand.{DebugCommand}
use Rattle.acta_explain.proofs.run.explain_script.Goals as goal

-- commands count where no line stops the events
either : (o : Option BadLine) (s t : Parsed DebugCommand) → IfNone o (s ≡ t) → (is_some o || is_some s.stop) ≡ (is_some o || is_some t.stop)
either None s t same = ap (λ (x : Parsed DebugCommand). is_some x.stop) same
either (Some b) s t same = refl

pub returns : goal.returns
returns g c =
    let events = ap (λ (s : Parsed _). s.stop) c.in_ok-events.ensures.events in
    subst (λ (b : Bool). IfOk c.run_report.result (λ (report : Report _). report.is_refused ≡ b))
    (c.script_stop-stop.ensures
    ∙ either c.in_ok-events.field-0.events.stop (parsed_of c.in_ok-events.field-0.commands) (script_commands c.args.model c.args.input.now) c.in_ok-events.ensures.commands
    ∙ (λ i. is_some (events i) || is_some (script_commands c.args.model c.args.input.now).stop))
    c.run_report.ensures
