use Rattle.std.proofs.Common.{◌≡◌, ◌∙◌, ap, subst, sym}
use Rattle.std.specs.Prelude.{Err}
use Rattle.acta_debug.specs.declared.errors.NewError.TheVariants.{NotAHistory}
use Rattle.acta_debug.specs.Histories.{IsFirstOther, IsHistory}
use Rattle.acta_debug.proofs.debugger.Debugger.new.Goals as goal

pub returns-in-Err-clause-accepted : goal.returns-in-Err-clause-accepted
returns-in-Err-clause-accepted g c = λ whole.
    rw c.in-Err.is at (c.accepted.ensures.accepted (subst (λ h. IsHistory c.args.model h) (sym c.as_slice.ensures.value) whole))

pub returns-in-Err-clause-other : goal.returns-in-Err-clause-other
returns-in-Err-clause-other g c = λ n is.
    let same : c.in-Err.error ≡ NotAHistory n = cc in
    subst (λ h. IsFirstOther c.args.model h n) c.as_slice.ensures.value (c.accepted.ensures.other n (c.in-Err.is ∙ ap (λ e. Err e) same))
