use Rattle.std.proofs.Common.{◌≡◌, Bool, IfOk, subst, sym, ap, ◌∙◌}
use Rattle.std.specs.Prelude.{is_some}
use Rattle.acta_io.specs.declared.reports.Report.{Report}
use Rattle.acta_io.specs.Input.{Parsed}
use Rattle.acta_explain.proofs.run.explain_seated.Goals as goal

pub returns : goal.returns
returns g c =
    subst (λ (b : Bool). IfOk c.run_report.result (λ (report : Report _). report.is_refused ≡ b))
    (c.stop_at.ensures ∙ sym (ap (λ (s : Parsed _). is_some s.stop) c.in_ok-parsed.ensures.parsed))
    c.run_report.ensures
