use Rattle.std.proofs.Common.{ℕ, inl, inr, rules, subst}
use Rattle.std.specs.Io.{StartsWith}
use Rattle.std.proofs.lemmas.Result.{IfOk-weaker}
use Rattle.acta_explore.specs.Ends.{IsTooMany}
use Rattle.acta_programs.specs.From.{given_up_line}
use Rattle.acta_programs.proofs.from.explain_root.Goals as goal

pub returns-in-Ok : goal.returns-in-Ok
returns-in-Ok g c =
    IfOk-weaker c.explain_all-text.result _ _ (λ text starts. inl (c.in-Ok.explored.ends, c.in-Ok.ensures.all, starts)) c.explain_all-text.ensures

pub returns-in-Err-TooMany : goal.returns-in-Err-TooMany
returns-in-Err-TooMany g c =
    let found = c.in-Err-TooMany in
    let over : IsTooMany c.args.lines.now c.args.root.now c.args.most found.points found.ends = search rules in
    IfOk-weaker c.explain_given_up.result _ _
    (λ text starts. inr (found.points, found.ends, over, subst (λ (n : ℕ × ℕ). StartsWith text.items (given_up_line n.0 n.1)) (λ i. (found.points-is i, found.ends-is i)) starts))
    c.explain_given_up.ensures
