use Rattle.std.proofs.Common.{subst, ◌∙◌}
use Rattle.std.specs.Prelude.{IfOk}
use Rattle.acta_explore.specs.Points.{Point}
use Rattle.acta_explore.specs.Programs.{Programs}
use Rattle.acta_explore.specs.Histories.{programs_after}
use Rattle.acta_programs.specs.From.{IsAnswerFrom}
use Rattle.acta_programs.proofs.from.explain_from.Goals as goal

pub returns : goal.returns
returns g c =
    let most = c.args.most in
    let all = c.as_slice.ensures.value ∙ c.in_ok-all.ensures in
    subst (λ (root : Point _). IfOk c.explain_root-text.result (λ text. IsAnswerFrom most (programs_after c.args.machine.now c.args.lines.now) root text.items)) c.in_ok-root.ensures
    (subst (λ (programs : Programs _). IfOk c.explain_root-text.result (λ text. IsAnswerFrom most programs c.in_ok-root.root text.items)) all c.explain_root-text.ensures)
