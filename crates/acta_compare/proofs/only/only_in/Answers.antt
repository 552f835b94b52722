use Rattle.std.proofs.Common.{◌<◌, ◌≤◌, ◌+◌, ℕ, List, Option, length, true≢false, ap, refl, subst, sym, ◌∙◌}
use Rattle.std.specs.Prelude.{IsSomeAnd}
use Rattle.std.specs.List.{range_with_len}
use Rattle.acta_explore.specs.Outcomes.{Outcome}
use Rattle.acta_compare.specs.OnlyIn.{IsMissing, IsOnlyIn}
use Rattle.acta_compare.proofs.Missing.{ended-at, place-at, places-past}
use Rattle.acta_compare.proofs.Selecting.{IsSoFar, passed-item, selected-all, selected-item}
use Rattle.acta_compare.proofs.only.only_in.Goals as goal
use Rattle.acta_compare.proofs.only.only_in.Goals.{then-not-has_outcome+in_ok-push, else-not-has_outcome, else-loop-place-test, then-loop-place-test+in_default}

pub loop-place-preserved : goal.loop-place-preserved
loop-place-preserved g c =
    let outcomes = c.args.explored.now.outcomes in
    let others = c.args.other.now.outcomes in
    let count = length c.args.explored.now.ends in
    let i = c.loop-place.place in
    let there = place-at count i (subst (λ (n : ℕ). i < n) c.len-place-end.ensures c.loop-place-test.true) in
    let found = c.loop-place.places.items in
    elim c.if-not-has_outcome.branch [
      | then-not-has_outcome+in_ok-push w ↦
          let next = ap (λ v. v.items) w.places-is ∙ w.in_ok-push.ensures.items in
          let holds = subst (λ (o : Option (Outcome _)). IsSomeAnd o (IsMissing others)) c.in-Some.ensures (λ within. true≢false (sym (w.if-not-has_outcome.ensures.1 within))) in
          subst (λ (ns : List ℕ). IsSoFar (IsOnlyIn outcomes others) (range_with_len 0 count) (i + 1) ns) (sym next)
          (selected-item (IsOnlyIn outcomes others) (range_with_len 0 count) i i found there holds c.loop-place.invariant)
      | else-not-has_outcome w ↦
          subst (λ (ns : List ℕ). IsSoFar (IsOnlyIn outcomes others) (range_with_len 0 count) (i + 1) ns) (sym (ap (λ v. v.items) w.places-is))
          (passed-item (IsOnlyIn outcomes others) (range_with_len 0 count) i i found there
          (λ holds. (subst (λ (o : Option (Outcome _)). IsSomeAnd o (IsMissing others)) (sym c.in-Some.ensures) holds) (w.if-not-has_outcome.ensures.0 refl)) c.loop-place.invariant)
    ]

pub returns : goal.returns
returns g c =
    let outcomes = c.args.explored.now.outcomes in
    let others = c.args.other.now.outcomes in
    let count = length c.args.explored.now.ends in
    let i = c.loop-place.place in
    let found = c.loop-place.places.items in
    elim c.loop-place-test.branch [
      | else-loop-place-test w ↦
          selected-all (IsOnlyIn outcomes others) (range_with_len 0 count) i found
          (places-past count i (subst (λ (n : ℕ). n ≤ i) c.len-place-end.ensures w.loop-place-test.false)) c.loop-place.invariant
      | then-loop-place-test+in_default w ↦
          selected-all (IsOnlyIn outcomes others) (range_with_len 0 count) i found
          (places-past count i (subst (λ (n : ℕ). n ≤ i) c.requires.one (ended-at outcomes i (sym w.in_default.ensures)))) c.loop-place.invariant
    ]
