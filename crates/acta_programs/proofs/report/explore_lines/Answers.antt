use Rattle.std.proofs.Common.{◌≡◌, Bool, true, false, List, ℕ, subst, ◌∙◌, inl, inr}
use Rattle.std.specs.Prelude.{is_some}
use Rattle.std.proofs.lemmas.Result.{IfOk-weaker}
use Rattle.acta_ends.specs.declared.fault.ConditionFault.{ConditionFault}
use Rattle.acta_ends.specs.declared.fault.ConditionError.TheVariants.{Fault}
use Rattle.acta_io.specs.Reports.{Output}
use Rattle.acta_io.specs.inside.Reports.{output_of}
use Rattle.acta_programs.specs.Answers.{IsFaultyCondition, IsSearched}
use Rattle.acta_programs.specs.inside.Conditions.{MayFail}
use Rattle.acta_programs.proofs.report.explore_lines.Goals as goal

-- only a condition that is given can be faulty
refused : (given : Bool) (fault : ConditionFault) (out : Output) → MayFail given (Fault fault) → out.is_refused ≡ true → IsFaultyCondition given out
refused false fault out may h = absurd cc
refused true fault out may h = h

pub returns-in-Err-Fault : goal.returns-in-Err-Fault
returns-in-Err-Fault g c =
    IfOk-weaker c.explain_condition.result _ _
    (λ report h. inr (refused (is_some c.args.asked.condition) c.in-Err-Fault.fault (output_of report) (subst (MayFail (is_some c.args.asked.condition)) c.in-Err-Fault.field-0-is c.in-Err-Fault.ensures.err) h))
    c.explain_condition.ensures

pub returns : goal.returns
returns g c =
    let numbers = c.as_slice-2.ensures.value ∙ c.in_ok-numbers.ensures in
    IfOk-weaker c.search.result _ _
    (λ report h. inl (
      c.in-Ok.condition,
      c.in-Ok.ensures.ok,
      subst (λ (ns : List ℕ). IsSearched c.args.asked.form c.args.asked.most c.args.model.now c.args.lines.now ns c.in-Ok.condition (output_of report)) numbers h,
    ))
    c.search.ensures
