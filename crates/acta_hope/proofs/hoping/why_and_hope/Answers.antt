use Rattle.std.proofs.Common.{Option, sym, ap, subst, ◌∙◌}
use Rattle.std.specs.Prelude.{IfSome, option_map}
use Rattle.acta_machine.specs.Reasons.{refusal_of, IsSo}
use Rattle.acta_machine.specs.declared.reason.Reason.{Reason}
use Rattle.acta_hope.proofs.Growth.{summary_in}
use Rattle.acta_hope.proofs.Reasons.{force}
use Rattle.acta_hope.proofs.hoping.why_and_hope.Goals as goal

pub returns-in-Some-clause-force : goal.returns-in-Some-clause-force
returns-in-Some-clause-force g c =
    let machine = c.args.machine.now in
    force machine c.args.event.now c.in-Some.reason (record {
      refusal = sym (sym (ap (option_map refusal_of) c.in-Some.is) ∙ c.in_ok-reason.ensures.refusal);
      so = subst (λ (found : Option Reason). IfSome found (IsSo machine.model (summary_in machine) c.args.event.now)) c.in-Some.is c.in_ok-reason.ensures.so;
    })
