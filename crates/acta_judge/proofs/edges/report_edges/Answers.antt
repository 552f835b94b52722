use Rattle.std.proofs.Common.{List, ℕ, flat_map, ap, ◌∙◌}
use Rattle.std.specs.Prelude.{filter_map, option_map}
use Rattle.std.specs.List.{enumerate_from}
use Rattle.std.proofs.lemmas.Result.{IfOk-weaker}
use Rattle.acta_table.specs.declared.dep.Edge.{Edge}
use Rattle.acta_axioms.specs.Legal.{debt_in, owed_on, owed}
use Rattle.acta_judge.specs.Broken.{edge_faults}
use Rattle.acta_judge.proofs.Stretches.{faults-together, owed-together}
use Rattle.acta_judge.proofs.edges.report_edges.Goals as goal

pub returns-clause-faults : goal.returns-clause-faults
returns-clause-faults g c =
    let h = c.args.walk.now.front in
    let whole = ap (λ (ss : List (List (ℕ × Edge))). flat_map (λ s. s) ss) c.as_slice.ensures.value ∙ c.in_ok-stretches.ensures ∙ ap (enumerate_from 1) c.edges.ensures in
    IfOk-weaker c.report_stretches.result _ _ (λ v reported.
    ap (flat_map (λ part. part.faults)) reported ∙ faults-together h c.as_slice.result.now ∙ ap (flat_map (edge_faults h)) whole) c.report_stretches.ensures

pub returns-clause-owed : goal.returns-clause-owed
unfolding owed
returns-clause-owed g c =
    let h = c.args.walk.now.front in
    let whole = ap (λ (ss : List (List (ℕ × Edge))). flat_map (λ s. s) ss) c.as_slice.ensures.value ∙ c.in_ok-stretches.ensures ∙ ap (enumerate_from 1) c.edges.ensures in
    IfOk-weaker c.report_stretches.result _ _ (λ v reported.
    ap (flat_map (λ part. part.owed)) reported ∙ owed-together h c.as_slice.result.now ∙ ap (filter_map (λ e. option_map (owed_on e) (debt_in h e.1))) whole) c.report_stretches.ensures
