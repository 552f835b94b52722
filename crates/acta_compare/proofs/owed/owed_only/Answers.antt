use Rattle.std.proofs.Common.{◌+◌, List, ap, subst, sym, ◌∙◌}
use Rattle.std.proofs.lemmas.Option.{slice_get-get_or, slice_get_past}
use Rattle.acta_explore.specs.declared.debt.Debt.{Debt}
use Rattle.acta_explore.specs.inside.Debts.{debt_eq}
use Rattle.acta_explore.specs.Outcomes.{debts_of}
use Rattle.acta_explore.proofs.Equivalence.{debt-decides}
use Rattle.acta_compare.specs.OnlyIn.{IsMissing}
use Rattle.acta_compare.specs.Selected.{Selects}
use Rattle.acta_compare.proofs.Missing.{missing-by, there-by}
use Rattle.acta_compare.proofs.Selecting.{IsSoFar, passed-item, selected-all, selected-item}
use Rattle.acta_compare.proofs.owed.owed_only.Goals as goal
use Rattle.acta_compare.proofs.owed.owed_only.Goals.{then-not-contains+in_ok-push, else-not-contains}

pub loop-debt-preserved : goal.loop-debt-preserved
loop-debt-preserved g c =
    let debts = c.as_slice-debt-items.result.now in
    let others = c.in_ok-others.others.items in
    let i = c.loop-debt.debt-index in
    let found = c.loop-debt.found.items in
    let there = slice_get-get_or debts i _ c.loop-debt-test.true in
    elim c.if-not-contains.branch [
      | then-not-contains+in_ok-push w ↦
          let next = ap (λ v. v.items) w.found-is ∙ w.in_ok-push.ensures.items in
          subst (λ (ds : List Debt). IsSoFar (IsMissing others) debts (i + 1) ds) (sym next)
          (selected-item (IsMissing others) debts i _ found there
          (missing-by debt_eq debt-decides others c.deref.result.now _ c.deref.ensures.value w.if-not-contains.ensures.value) c.loop-debt.invariant)
      | else-not-contains w ↦
          subst (λ (ds : List Debt). IsSoFar (IsMissing others) debts (i + 1) ds) (sym (ap (λ v. v.items) w.found-is))
          (passed-item (IsMissing others) debts i _ found there
          (λ missing. missing (there-by debt_eq debt-decides others c.deref.result.now _ c.deref.ensures.value w.if-not-contains.ensures.value)) c.loop-debt.invariant)
    ]

pub returns : goal.returns
returns g c =
    let debts = c.as_slice-debt-items.result.now in
    let others = c.in_ok-others.others.items in
    let i = c.loop-debt.debt-index in
    let found = c.loop-debt.found.items in
    let all = selected-all (IsMissing others) debts i found (slice_get_past debts i c.loop-debt-test.false) c.loop-debt.invariant in
    subst (λ (os : List Debt). Selects (IsMissing os) (debts_of c.args.machine.now) found) c.in_ok-others.ensures
    (subst (λ (ds : List Debt). Selects (IsMissing others) ds found) (c.as_slice-debt-items.ensures.value ∙ c.in_ok-owed.ensures) all)
