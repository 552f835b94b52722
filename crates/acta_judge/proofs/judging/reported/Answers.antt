use Rattle.std.proofs.Common.{◌++◌, length, flat_map, ap, ◌∙◌}
use Rattle.acta_axioms.specs.declared.fault.Axiom.TheVariants.{Clash}
use Rattle.acta_axioms.specs.Faults.{faults_at, faults_of}
use Rattle.acta_axioms.specs.History.{places_after}
use Rattle.acta_axioms.specs.Legal.{owed}
use Rattle.acta_judge.specs.Broken.{faults_in_edges}
use Rattle.acta_judge.specs.Order.{in_order}
use Rattle.acta_judge.specs.Verdicts.{verdict, all_faults}
use Rattle.acta_judge.specs.inside.Edges.{clashing_among}
use Rattle.acta_judge.specs.inside.Parts.{together}
use Rattle.acta_judge.proofs.Clashing.{clashing-by-debts}
use Rattle.acta_judge.proofs.judging.reported.Goals as goal

pub returns-clause-verdict : goal.returns-clause-verdict
unfolding verdict all_faults
returns-clause-verdict g c =
    let m = c.args.walk.now.model in
    let h = c.args.walk.now.ahead in
    let begun = c.requires in
    let walked = c.in_ok-places.ensures.walked in
    let front = ap (λ w. w.front) walked ∙ ap (λ f. f ++ h) begun in
    let model = ap (λ w. w.model) walked in
    let places = ap together c.as_slice-3.ensures.value ∙ c.in_ok-places.ensures.reported ∙ ap (λ f. flat_map (faults_at m) (places_after f h)) begun in
    let edges = ap (flat_map (λ part. part.faults)) c.as_slice-4.ensures.value ∙ c.in_ok-edges.ensures.faults ∙ (λ i. faults_in_edges (model i) (front i)) in
    let debts = c.in_ok-owed.ensures ∙ ap (flat_map (λ part. part.owed)) c.as_slice.ensures.value ∙ c.in_ok-edges.ensures.owed ∙ (λ i. owed (model i) (front i)) in
    let place = ap (λ xs. length xs) (c.front.ensures.front ∙ front) in
    let clashing = ap clashing_among (c.as_slice-2.ensures.value ∙ debts) ∙ clashing-by-debts m h in
    let clashes = c.as_slice-5.ensures.value ∙ c.in_ok-clashes.ensures ∙ (λ i. faults_of Clash (place i) (clashing i)) in
    let faults = c.of.ensures ∙ c.in_ok-faults.ensures.listed ∙ (λ i. in_order (places i ++ edges i ++ clashes i)) in
    let owing = c.of-2.ensures ∙ debts in
    λ i. record { faults = faults i; owed = owing i }
