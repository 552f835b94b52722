use Rattle.std.proofs.Common.{◌≡◌, ◌+◌, ◌++◌, List, length, ap, subst, ◌∙◌}
use Rattle.std.specs.Prelude.{OnOk}
use Rattle.acta_axioms.specs.declared.fault.Fault.{Fault}
use Rattle.acta_axioms.specs.Faults.{breaches}
use Rattle.acta_judge.specs.inside.Places.{faults_by, out_of_course, out_of_model, badly_transferred, badly_operated, too_late}
use Rattle.acta_judge.proofs.Merging.{then_others, in_groups}
use Rattle.acta_judge.proofs.item_faults.report_item.Goals as goal

pub returns : goal.returns
returns g c =
    let m = c.args.walk.now.model in
    let before = c.args.walk.now.front in
    let e = c.args.item.now.event in
    let ret = c.args.item.now.ret in
    let n = length c.front.result.now + 1 in
    let first = c.args.faults.now.items in
    let course = faults_by n (out_of_course before e) in
    let model = faults_by n (out_of_model m before e) in
    let transferred = faults_by n (badly_transferred m before e) in
    let operated = faults_by n (badly_operated m before ret e) in
    let late = faults_by n (too_late m before e) in
    let all : c.report_operation.new.faults.items ++ late ≡ first ++ (faults_by (length before + 1) (breaches m before ret e)) =
    then_others c.report_transfer.new.faults.items operated late c.in_ok-report_operation.ensures
    ∙ then_others c.report_model.new.faults.items transferred (operated ++ late) c.in_ok-report_transfer.ensures
    ∙ then_others c.report_course.new.faults.items model (transferred ++ (operated ++ late)) c.in_ok-report_model.ensures
    ∙ then_others first course (model ++ (transferred ++ (operated ++ late))) c.in_ok-report_course.ensures
    ∙ ap (λ fs. first ++ fs) (in_groups m before n ret e)
    ∙ ap (λ h. first ++ (faults_by (length h + 1) (breaches m before ret e))) c.front.ensures.front
    in
    subst (λ (fs : List Fault). OnOk c.report_lateness.result (c.report_lateness.new.faults.items ≡ fs)) all c.report_lateness.ensures
