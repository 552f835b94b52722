use Rattle.std.proofs.Common.{Option, false, sym, ap, ◌∙◌}
use Rattle.std.specs.Option.{option_map_or}
use Rattle.acta_sets.specs.declared.held_op.HeldOp.{HeldOp}
use Rattle.acta_hope.specs.Releases.{may_be_released, may_release}
use Rattle.acta_hope.proofs.Growth.{summary_in}
use Rattle.acta_hope.proofs.Releasing.{let-go}
use Rattle.acta_hope.proofs.releases.is_released.Goals as goal

pub returns-in-Some-clause-gone : goal.returns-in-Some-clause-gone
returns-in-Some-clause-gone g c = λ may.
    let machine = c.args.machine.now in
    let go = may_release machine.model (summary_in machine) c.in-Operate.t.0 in
    let found = sym c.operation_at.ensures ∙ c.in-Some.is in
    let-go machine c.args.event.now c.args.number c.args.release
    (ap (λ e. may_be_released machine e c.args.number c.args.release) c.in-Operate.is
    ∙ ap (λ (o : Option HeldOp). option_map_or (λ i. go i.holder.0 c.args.release) o false) found
    ∙ sym c.may_release.ensures ∙ may)
