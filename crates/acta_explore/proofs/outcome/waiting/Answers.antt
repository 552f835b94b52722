use Rattle.std.proofs.Common.{ℕ, ◌<◌, ◌+◌, ◌++◌, ◌∷◌, [], ap, ◌∙◌, sym, subst, List, length, map, drop, get_or}
use Rattle.std.specs.Prelude.{option_map}
use Rattle.std.specs.List.{filter_map}
use Rattle.std.proofs.lemmas.List.{map-append}
use Rattle.acta_explore.specs.declared.outcome.Wait.{Wait}
use Rattle.acta_explore.specs.Outcomes.{seats_of, waiting_at, Waiting}
use Rattle.acta_explore.specs.inside.Shown.{shown_wait}
use Rattle.acta_explore.proofs.Looping.{some-step, none-step}
use Rattle.acta_explore.proofs.outcome.waiting.Goals as goal

pub loop-seat-preserved-in_default : goal.loop-seat-preserved-in_default
loop-seat-preserved-in_default g c =
    let waits = waiting_at c.args.plan.now c.args.point.now in
    let seats = c.seats-seat-items.ensures in
    sym (none-step waits (map shown_wait c.loop-seat.waits.items) (seats_of c.args.plan.now) c.loop-seat.seat-index 0
    (subst (λ (ss : List ℕ). c.loop-seat.seat-index < length ss) seats c.loop-seat-test.true)
    (ap (λ (ss : List ℕ). waits (get_or ss c.loop-seat.seat-index 0)) (sym seats) ∙ (sym c.in_ok-wait.ensures ∙ ap (option_map shown_wait) c.in_default.is)))
    ∙ c.loop-seat.invariant

pub loop-seat-preserved : goal.loop-seat-preserved
loop-seat-preserved g c =
    let waits = waiting_at c.args.plan.now c.args.point.now in
    let seats = c.seats-seat-items.ensures in
    let rest = filter_map waits (drop (c.loop-seat.seat-index + 1) (seats_of c.args.plan.now)) in
    ap (λ (ws : List (Wait _)). map shown_wait ws ++ rest) c.in_ok-push.ensures.items
    ∙ (ap (λ (ws : List Waiting). ws ++ rest) (map-append shown_wait c.loop-seat.waits.items (c.in-Some.wait ∷ []))
    ∙ (sym (some-step waits (map shown_wait c.loop-seat.waits.items) (seats_of c.args.plan.now) c.loop-seat.seat-index 0 (shown_wait c.in-Some.wait)
    (subst (λ (ss : List ℕ). c.loop-seat.seat-index < length ss) seats c.loop-seat-test.true)
    (ap (λ (ss : List ℕ). waits (get_or ss c.loop-seat.seat-index 0)) (sym seats) ∙ (sym c.in_ok-wait.ensures ∙ ap (option_map shown_wait) c.in-Some.is)))
    ∙ c.loop-seat.invariant))
