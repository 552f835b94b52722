-- The possible results of a driven run, as reports.
use Rattle.std.specs.Prelude.{ℕ, List, Result, Ok, Err}
use Rattle.acta_io.specs.declared.reports.Report.{Report}
use Rattle.acta_io.specs.inside.Reports.{output_of}
use Rattle.acta_locked.specs.declared.run.DriveError.{DriveError}
use Rattle.acta_tool.specs.Driving.{MayCome, Task}

-- a possible report of a task, or a possible error
abbrev pub MayComeOf : {A : Type 0} → Result (Task A) (List ℕ) → Result (Report A) DriveError → Type 0
MayComeOf task (Ok report) = MayCome task (Ok (output_of report))
MayComeOf task (Err e) = MayCome task (Err e)
