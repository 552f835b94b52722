use Rattle.std.proofs.Common.{◌∙◌, refl, subst}
use Rattle.acta_locked.specs.declared.run.DriveError.TheVariants.{Memory}
use Rattle.acta_tool.specs.Driving.{Task, scripts_of, unless_too_long}
use Rattle.acta_tool.specs.inside.Reports.{MayComeOf}
use Rattle.acta_tool.proofs.Tasks.{short}
use Rattle.acta_tool.proofs.drive.drive_parsed.Goals as goal

pub returns-in-Ok : goal.returns-in-Ok
returns-in-Ok g c =
    subst (λ scripts. MayComeOf (unless_too_long (record { model = c.args.model; scripts = scripts; turns = c.args.turns })) c.drive_scripts.result) (c.as_slice.ensures.value ∙ c.in-Ok.ensures) c.drive_scripts.ensures

pub returns-in-Err : goal.returns-in-Err
returns-in-Err g c =
    let task : Task g.row.A.Denot = record { model = c.args.model; scripts = scripts_of c.args.workers c.args.parsed.now; turns = c.args.turns } in
    short (unless_too_long task) Memory refl
