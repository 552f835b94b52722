use Rattle.std.proofs.Common.{◌+◌, true≢false, ap, refl, subst, sym, ◌∙◌}
use Rattle.std.proofs.Common.{List}
use Rattle.acta_compare.specs.declared.differences.Difference.{Difference}
use Rattle.acta_compare.specs.Differences.{Differs, compared}
use Rattle.acta_compare.proofs.Selecting.{IsSoFar, passed-item, selected-all, selected-item}
use Rattle.acta_compare.proofs.Zipping.{past-numbers}
use Rattle.acta_compare.proofs.differences.differing.Goals as goal
use Rattle.acta_compare.proofs.differences.differing.Goals.{then-not-is_same+in_ok-push, else-not-is_same, else-loop-place-test, then-loop-place-test+in_default}

pub loop-place-preserved : goal.loop-place-preserved
loop-place-preserved g c =
    let lines = compared c.args.numbers.now c.args.one.now c.args.other.now in
    let i = c.loop-place.place in
    let found = c.loop-place.found.items in
    let there = sym c.compared_at.ensures ∙ c.in-Some.is in
    elim c.if-not-is_same.branch [
      | then-not-is_same+in_ok-push w ↦
          let next = ap (λ v. v.items) w.found-is ∙ w.in_ok-push.ensures.items in
          subst (λ (ds : List Difference). IsSoFar Differs lines (i + 1) ds) (sym next)
          (selected-item Differs lines i c.in-Some.line found there (λ same. true≢false (sym (w.if-not-is_same.ensures.1 same))) c.loop-place.invariant)
      | else-not-is_same w ↦
          subst (λ (ds : List Difference). IsSoFar Differs lines (i + 1) ds) (sym (ap (λ v. v.items) w.found-is))
          (passed-item Differs lines i c.in-Some.line found there (λ differs. differs (w.if-not-is_same.ensures.0 refl)) c.loop-place.invariant)
    ]

pub returns : goal.returns
returns g c =
    let lines = compared c.args.numbers.now c.args.one.now c.args.other.now in
    let i = c.loop-place.place in
    let found = c.loop-place.found.items in
    elim c.loop-place-test.branch [
      | else-loop-place-test w ↦
          selected-all Differs lines i found (past-numbers c.args.numbers.now c.args.one.now c.args.other.now i w.loop-place-test.false) c.loop-place.invariant
      | then-loop-place-test+in_default w ↦
          selected-all Differs lines i found (sym w.compared_at.ensures ∙ w.in_default.is) c.loop-place.invariant
    ]
