-- The output that a report stands for, and why no model was read.
use Rattle.std.specs.Prelude.{◌≡◌, ⊤, Result, Err}
use Rattle.acta_table.specs.declared.model.Parts.{Parts}
use Rattle.acta_io.specs.declared.models.ModelError.{ModelError}
use Rattle.acta_io.specs.declared.models.ModelError.TheVariants as error
use Rattle.acta_io.specs.declared.models.NoModel.{NoModel}
use Rattle.acta_io.specs.declared.reports.Report.{Report}
use Rattle.acta_io.specs.Reports.{Output}

abbrev pub output_of : {A : Type 0} → Report A → Output
output_of report = record { is_refused = report.is_refused; text = report.text.items }

-- the error is the fault of the bytes, or lack of memory
abbrev pub IsWhy : {A : Type 0} → Result (Parts A) NoModel → ModelError → Type 0
IsWhy found error.Memory = ⊤
IsWhy found (error.Fault fault) = found ≡ Err fault
