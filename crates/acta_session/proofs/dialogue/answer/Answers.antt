use Rattle.std.proofs.Common.{◌≡◌, ◌++◌, [], rules}
use Rattle.std.specs.Prelude.{if◌then◌else◌}
use Rattle.acta_session.specs.Shells.{quits}
use Rattle.acta_session.proofs.dialogue.answer.Goals as goal

pub returns-in-Ok-show-clause-shown : goal.returns-in-Ok-show-clause-shown
returns-in-Ok-show-clause-shown g c =
    let text = c.in-Ok.field-0.text in
    let shown : c.as_slice.result.now ≡ text.items ++ (if quits c.args.shell.now c.args.line.now then [] else c.args.prompt.now) = search rules in
    (c.as_slice.result.now, (text, c.in-Ok.ensures.says, shown), c.in-Ok-show.ensures.shown)
