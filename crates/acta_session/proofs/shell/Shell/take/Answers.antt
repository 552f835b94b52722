use Rattle.std.proofs.Common.{ap, subst, ◌∙◌}
use Rattle.std.specs.Prelude.{IfOk}
use Rattle.acta_table.specs.declared.answer.Answer.{Answer}
use Rattle.acta_script.specs.Answers.{answer_line}
use Rattle.acta_machine.specs.Table.{answer_to}
use Rattle.acta_debug.specs.Sessions.{Session}
use Rattle.acta_session.specs.Remarks.{IsRemarked}
use Rattle.acta_session.specs.Replies.{after_answer}
use Rattle.acta_session.specs.Shells.{ShellState, state_of}
use Rattle.acta_session.proofs.shell.Shell.take.Goals as goal

pub returns-clause-answer : goal.returns-clause-answer
returns-clause-answer g c =
    let session = c.settle.ensures.same ∙ ap (λ (s : ShellState g.row.A.Denot). s.session) c.self.view_is in
    subst (λ (answer : Answer). IfOk c.answer_text.result (λ text. IsRemarked (answer_line answer) after_answer text.items))
    (c.in_ok-answer.ensures.answer ∙ ap (λ (s : Session g.row.A.Denot). answer_to (state_of s) c.args.event) session)
    c.answer_text.ensures
