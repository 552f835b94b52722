use Rattle.std.proofs.Common.{◌≡◌, ◌∷◌, [], map, ap, inl, inr, refl, sym, subst, ◌∙◌}
use Rattle.std.proofs.lemmas.List.{map-append}
use Rattle.std.proofs.lemmas.List.Elements.{All-push}
use Rattle.acta_explore.specs.Outcomes.{outcome}
use Rattle.acta_explore.specs.inside.Merging.{AreOutcomes}
use Rattle.acta_explore.specs.inside.Shown.{shown}
use Rattle.acta_explore.proofs.Equivalence.{outcomes_equivalent, outcome-shown, like-found, others-found, put-last}
use Rattle.acta_explore.proofs.search.put_end.Goals as goal

pub returns-then-contains_key-clause-put : goal.returns-then-contains_key-clause-put
returns-then-contains_key-clause-put g c =
    let there = sym c.contains_key.ensures ∙ c.if-contains_key.true in
    let equivalent = outcomes_equivalent g.row.A g.A.Allocator g.A.Allocator-dict g.A.Allocator-dict in
    let decides = outcome-shown g.row.A g.A.Allocator g.A.Allocator-dict g.A.Allocator-dict in
    inr (refl, like-found c.args.plan.now equivalent decides c.args.found c.args.point c.requires.found c.args.ends.now.entries c.requires.outcomes there)

pub returns-clause-outcomes : goal.returns-clause-outcomes
returns-clause-outcomes g c =
    let absent = sym c.contains_key.ensures ∙ c.if-contains_key.false in
    let equivalent = outcomes_equivalent g.row.A g.A.Allocator g.A.Allocator-dict g.A.Allocator-dict in
    let put = c.in_ok-insert.ensures.entries ∙ put-last equivalent c.args.ends.now c.args.found c.args.point absent in
    subst (AreOutcomes c.args.plan.now) (sym put)
    (All-push (λ e. shown e.0 ≡ outcome c.args.plan.now e.1) c.args.ends.now.entries (c.args.found, c.args.point) c.requires.outcomes c.requires.found)

pub returns-clause-put : goal.returns-clause-put
returns-clause-put g c =
    let absent = sym c.contains_key.ensures ∙ c.if-contains_key.false in
    let equivalent = outcomes_equivalent g.row.A g.A.Allocator g.A.Allocator-dict g.A.Allocator-dict in
    let decides = outcome-shown g.row.A g.A.Allocator g.A.Allocator-dict g.A.Allocator-dict in
    let put = c.in_ok-insert.ensures.entries ∙ put-last equivalent c.args.ends.now c.args.found c.args.point absent in
    inl (
      ap (map (λ e. e.1)) put ∙ map-append (λ e. e.1) c.args.ends.now.entries ((c.args.found, c.args.point) ∷ []),
      others-found c.args.plan.now equivalent decides c.args.found c.args.point c.requires.found c.args.ends.now.entries c.requires.outcomes absent,
    )
