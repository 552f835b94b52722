use Rattle.std.proofs.Common.{◌≤◌, ℕ, Some, true≢false, ap, refl, subst, sym, ◌∙◌}
use Rattle.acta_explore.specs.inside.Shown.{shown}
use Rattle.acta_explore.proofs.Equivalence.{outcome-shown}
use Rattle.acta_compare.proofs.Missing.{contains-at, ended-at, not-contained, not-next}
use Rattle.acta_compare.proofs.only.has_outcome.Goals as goal

pub loop-place-preserved : goal.loop-place-preserved
loop-place-preserved g c =
    let decides = outcome-shown g.row.A g.A.Allocator g.A.Allocator-dict g.A.Allocator-dict c.in-Some.one.now c.args.outcome.now in
    not-next c.args.explored.now.outcomes c.loop-place.place (shown c.args.outcome.now) (shown c.in-Some.one.now) (sym c.in-Some.ensures)
    (λ same. true≢false (sym (decides.1 same) ∙ (sym c.eq.ensures ∙ c.if-eq.false))) c.loop-place.invariant

pub returns-then-eq : goal.returns-then-eq
returns-then-eq g c =
    let decides = outcome-shown g.row.A g.A.Allocator g.A.Allocator-dict g.A.Allocator-dict c.in-Some.one.now c.args.outcome.now in
    let same = decides.0 (sym c.eq.ensures ∙ c.if-eq.true) in
    (λ yes. contains-at c.args.explored.now.outcomes c.loop-place.place (shown c.args.outcome.now) (sym c.in-Some.ensures ∙ ap Some same), λ within. refl)

pub returns-after-loop-place : goal.returns-after-loop-place
returns-after-loop-place g c =
    let past = subst (λ (n : ℕ). n ≤ c.loop-place.place) (c.len-place-end.ensures ∙ sym c.requires) c.loop-place-test.false in
    (λ yes. absurd (true≢false (sym yes)), λ within. absurd (not-contained c.args.explored.now.outcomes c.loop-place.place (shown c.args.outcome.now) past c.loop-place.invariant within))

pub returns-in_default : goal.returns-in_default
returns-in_default g c =
    let past = ended-at c.args.explored.now.outcomes c.loop-place.place (sym c.in_default.ensures) in
    (λ yes. absurd (true≢false (sym yes)), λ within. absurd (not-contained c.args.explored.now.outcomes c.loop-place.place (shown c.args.outcome.now) past c.loop-place.invariant within))
