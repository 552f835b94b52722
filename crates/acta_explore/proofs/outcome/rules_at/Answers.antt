use Rattle.std.proofs.Common.{◌++◌, ◌∷◌, [], ap, ◌∙◌, sym, List}
use Rattle.acta_table.specs.declared.answer.Rule.{Rule}
use Rattle.acta_explore.specs.Outcomes.{rule_at}
use Rattle.acta_explore.proofs.Looping.{some-range, none-range}
use Rattle.acta_explore.proofs.outcome.rules_at.Goals as goal

pub loop-alternative-preserved-in_default : goal.loop-alternative-preserved-in_default
loop-alternative-preserved-in_default g c =
    c.loop-alternative.invariant ∙ sym (none-range (rule_at c.args.plan.now c.args.point.now c.args.line) c.loop-alternative.alternative (sym c.in_ok-rule.ensures ∙ c.in_default.is))

pub loop-alternative-preserved : goal.loop-alternative-preserved
loop-alternative-preserved g c =
    c.in_ok-push.ensures.items ∙ (ap (λ (rs : List Rule). rs ++ c.in-Some.rule ∷ []) c.loop-alternative.invariant
    ∙ sym (some-range (rule_at c.args.plan.now c.args.point.now c.args.line) c.loop-alternative.alternative c.in-Some.rule (sym c.in_ok-rule.ensures ∙ c.in-Some.is)))
