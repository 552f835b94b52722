-- The report on a serial order is the output of `serial`.
use Rattle.std.proofs.Common.{◌≡◌, List, [], ◌∷◌, sym, ap, ◌∙◌}
use Rattle.std.specs.Prelude.{true, Option, Some, None, Result, Ok, Err, IfOk}
use Rattle.acta_table.specs.declared.event.Event.{Event}
use Rattle.acta_table.specs.declared.model.Parts.{Parts}
use Rattle.acta_machine.specs.Table.{State, run_state}
use Rattle.acta_machine.proofs.Runs.{model-run}
use Rattle.acta_words.specs.Text.{text_of}
use Rattle.acta_io.specs.declared.input.BadLine.{BadLine}
use Rattle.acta_io.specs.declared.reports.Report.{Report}
use Rattle.acta_io.specs.Input.{Parsed}
use Rattle.acta_tool.specs.Output.{serial_on, serialized_on}
use Rattle.acta_io.specs.Reports.{stop_line}
use Rattle.acta_io.specs.inside.Reports.{output_of}

-- where a line stopped the reading
pub stopped : {A E : Type 0} (m : Parts A) (s : Parsed (Event A)) (events : List (Event A)) (stop : Option BadLine) (line : BadLine) (report : Result (Report A) E) → s ≡ record { parsed = events; stop = stop } → stop ≡ Some line
    → IfOk report (λ r. output_of r ≡ record { is_refused = true; text = text_of (stop_line line ∷ []) }) → IfOk report (λ r. output_of r ≡ serial_on m s)
unfolding serial_on
stopped m s events stop line (Ok r) parsed is reported = reported ∙ sym (ap (λ (x : Parsed _). serialized_on m (run_state m x.parsed).kept x.stop) parsed ∙ ap (serialized_on m (run_state m events).kept) is)
stopped m s events stop line (Err e) parsed is reported = tt

-- where none did
pub ran : {A E : Type 0} (m : Parts A) (s : Parsed (Event A)) (events : List (Event A)) (stop : Option BadLine) (state : State A) (report : Result (Report A) E) → s ≡ record { parsed = events; stop = stop } → stop ≡ None → state ≡ run_state m events
    → IfOk report (λ r. output_of r ≡ serialized_on state.model state.kept None) → IfOk report (λ r. output_of r ≡ serial_on m s)
unfolding serial_on
ran m s events stop state (Ok r) parsed none stands reported =
    reported
    ∙ (λ i. serialized_on (stands i).model (stands i).kept None)
    ∙ ap (λ n. serialized_on n (run_state m events).kept None) (model-run m events)
    ∙ sym (ap (λ (x : Parsed _). serialized_on m (run_state m x.parsed).kept x.stop) parsed ∙ ap (serialized_on m (run_state m events).kept) none)
ran m s events stop state (Err e) parsed none stands reported = tt
