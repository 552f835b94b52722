use Rattle.std.proofs.Common.{◌≡◌, Ok, rules, subst, sym}
use Rattle.std.proofs.lemmas.Result.{IfOk-weaker}
use Rattle.acta_words.specs.Text.{words_of}
use Rattle.acta_script.specs.Shell.{shell_line_of}
use Rattle.acta_session.specs.Replies.{Says}
use Rattle.acta_session.proofs.shell.Shell.read.Goals as goal

pub returns-in-Ok-clause-says : goal.returns-in-Ok-clause-says
returns-in-Ok-clause-says g c =
    let words = words_of c.args.line.now in
    let model = c.args.self.now.session.model in
    let read : shell_line_of model c.args.line.now ≡ Ok c.in-Ok.parsed = search rules in
    IfOk-weaker c.obey.result _ _
    (λ reply h. subst (λ line. Says g.W.Words.says c.args.self.now words line reply.text) (sym read) (h words))
    c.obey.ensures.says
