use Rattle.std.proofs.Common.{subst}
use Rattle.acta_session.specs.Dialogues.{IsDialogue}
use Rattle.acta_session.specs.Shells.{ShellState}
use Rattle.acta_shell.specs.Sessions.{shows}
use Rattle.acta_shell.proofs.tool.answer.Goals as goal

pub returns-in-Ok : goal.returns-in-Ok
returns-in-Ok g c = λ done.
    let talk = c.converse.ensures.done done in
    record {
      acts = talk.0;
      last = c.converse.new.shell;
      happened = talk.1;
      dialogue = subst (λ (s : ShellState g.row.A.Denot). IsDialogue (shows c.args.prompt.now) s talk.0 c.converse.new.shell) c.in-Ok.ensures talk.2;
    }
