use Rattle.std.proofs.Common.{◌∙◌, sym, subst}
use Rattle.acta_tool.specs.Driving.{scripts_of, task_on, unless_too_long}
use Rattle.acta_tool.specs.inside.Reports.{MayComeOf}
use Rattle.acta_tool.proofs.drive.drive_lines.Goals as goal

pub returns-in-None : goal.returns-in-None
returns-in-None g c =
    subst (λ s. MayComeOf (task_on c.args.workers c.args.turns c.args.model s) c.drive_parsed.result)
    (sym (c.in_ok-read.ensures.parsed ∙ (λ i. record { parsed = c.in_ok-read.read.parsed.items; stop = c.in-None.is i })))
    (subst (λ parsed. MayComeOf (unless_too_long (record { model = c.args.model; scripts = scripts_of c.args.workers parsed; turns = c.args.turns })) c.drive_parsed.result) c.as_slice.ensures.value c.drive_parsed.ensures)
