use Rattle.std.proofs.Common.{ap, subst, ◌∙◌}
use Rattle.std.specs.Prelude.{IfOk}
use Rattle.acta_table.specs.declared.answer.Answer.{Answer}
use Rattle.acta_script.specs.Answers.{answer_line}
use Rattle.acta_machine.specs.Table.{State, answer_to}
use Rattle.acta_debug.specs.Cursors.{CursorState}
use Rattle.acta_debug.specs.Histories.{state_at}
use Rattle.acta_session.specs.Remarks.{IsRemarked}
use Rattle.acta_session.specs.Replies.{after_answer}
use Rattle.acta_session.specs.Shells.{ShellState, state_of}
use Rattle.acta_session.proofs.shell.Shell.ask.Goals as goal

pub returns-clause-answer : goal.returns-clause-answer
returns-clause-answer g c =
    let machine =
    c.machine-machine.ensures.machine
    ∙ ap (λ (k : CursorState g.row.A.Denot). state_at k.session.model k.session.history k.reached) c.in_ok-settle.ensures.ok
    ∙ ap (λ (s : ShellState g.row.A.Denot). state_of s.session) c.self.view_is
    in
    subst (λ (answer : Answer). IfOk c.answer_text.result (λ text. IsRemarked (answer_line answer) after_answer text.items))
    (c.in_ok-answer.ensures ∙ ap (λ (m : State g.row.A.Denot). answer_to m c.args.event.now) machine)
    c.answer_text.ensures
