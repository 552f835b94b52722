use Rattle.std.proofs.Common.{◌≡◌, sym, subst}
use Rattle.std.specs.Prelude.{Ok}
use Rattle.acta_tool.specs.Driving.{MayCome, MayWrite, task_of}
use Rattle.acta_io.specs.Models.{of_either}
use Rattle.acta_io.specs.inside.Reports.{output_of}
use Rattle.acta_tool.proofs.Tasks.{written}
use Rattle.acta_tool.proofs.drive.drive_tool.Goals as goal

pub returns-in-Ok-answer-clause-answers : goal.returns-in-Ok-answer-clause-answers
returns-in-Ok-answer-clause-answers g c =
    let model = c.args.model.now in
    let left = g.S.Source.remaining c.args.input.now in
    let items = c.in-Ok.bytes.items in
    let out = output_of c.in-Ok-answer.report in
    written g.row.A.Denot c.args.args.now.command model items left c.write_report.result out (g.W.Sink.contents c.args.output.now) (g.W.Sink.contents c.write_report.new.output)
    c.in-Ok.ensures.bytes
    (subst (λ command. MayWrite g.row.A.Denot command model items (Ok out)) (sym c.in-Drive.is)
    (subst (λ bytes. MayCome {A = g.row.A.Denot} (task_of c.in-Drive.workers c.in-Drive.turns (of_either model) bytes) (Ok out)) c.as_slice.ensures.value c.in-Ok-answer.ensures))
    c.write_report.ensures.answers
