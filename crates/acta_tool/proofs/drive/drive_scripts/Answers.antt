use Rattle.std.proofs.Common.{subst}
use Rattle.std.specs.Prelude.{◌≡◌, IfOk, List, false}
use Rattle.acta_locked.specs.declared.watch.Front.{Front}
use Rattle.acta_tool.specs.Driving.{Task, book_lines}
use Rattle.acta_io.specs.inside.Reports.{output_of}
use Rattle.acta_words.specs.Text.{text_of}
use Rattle.acta_tool.proofs.Tasks.{driven, undriven, unstopped}
use Rattle.acta_tool.proofs.drive.drive_scripts.Goals as goal

pub returns-in-Ok : goal.returns-in-Ok
returns-in-Ok g c =
    let task : Task g.row.A.Denot = record { model = c.args.model; scripts = c.args.scripts.now; turns = c.args.turns } in
    let parsed : List (Front g.row.A.Denot) → Type 0 = λ fs. IfOk c.report_book-reported.result (λ report. output_of report ≡ record { is_refused = false; text = text_of (book_lines c.in-Ok.watched.driven.book fs) }) in
    driven task c.in-Ok.watched.driven c.in-Ok.watched.fronts c.report_book-reported.result c.in-Ok.ensures.blocked c.in-Ok.ensures.driven (record { fronts = c.in-Ok.ensures.fronts; asked = c.in-Ok.ensures.turns })
    (subst parsed c.as_slice.ensures c.report_book-reported.ensures.reported) c.report_book-reported.ensures.memory

pub returns-in_default : goal.returns-in_default
returns-in_default g c =
    let task : Task g.row.A.Denot = record { model = c.args.model; scripts = c.args.scripts.now; turns = c.args.turns } in
    undriven task c.in-Err.e c.in-Err.ensures.only (unstopped c.args.scripts.now c.in-Err.e c.in-Err.ensures.why) c.in-Err.ensures.blocked c.in_default.not-TooManyEvents
