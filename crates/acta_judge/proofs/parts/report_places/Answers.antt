use Rattle.std.proofs.Common.{◌++◌, [], ◌∷◌, map, append-nil, ap, ◌∙◌}
use Rattle.std.proofs.lemmas.Grind.{flat_map-append}
use Rattle.std.proofs.lemmas.List.Folds.{flat_map-map}
use Rattle.acta_judge.specs.inside.Parts.{faults_ahead, together}
use Rattle.acta_judge.proofs.parts.report_places.Goals as goal

pub returns-clause-reported : goal.returns-clause-reported
returns-clause-reported g c =
    let reported = faults_ahead c.args.size in
    let parts = c.in_ok-parts.parts.items in
    let last = c.in_ok-report_rest.field-0 in
    let by_parts = c.in_ok-reported.ensures ∙ ap (map reported) c.as_slice.ensures.value in
    ap together c.in_ok-push.ensures.items
    ∙ flat_map-append (λ part. part) c.in_ok-reported.reported.items (last ∷ [])
    ∙ (λ i. together (by_parts i) ++ append-nil last i)
    ∙ (λ i. flat_map-map (λ part. part) reported parts i ++ c.in_ok-report_rest.ensures.reported i)
    ∙ c.in_ok-parts.ensures.parts

pub returns-clause-walked : goal.returns-clause-walked
returns-clause-walked g c = c.in_ok-report_rest.ensures.walked ∙ c.in_ok-parts.ensures.whole
