use Rattle.std.proofs.Common.{map, ap, sym, ◌∙◌, ℕ, List}
use Rattle.std.proofs.lemmas.Simd.{map-map}
use Rattle.std.specs.Borrow.{Bor}
use Rattle.rayon.specs.Lists.{min_len_base, iter_slice}
use Rattle.acta_table.specs.declared.dep.Edge.{Edge}
use Rattle.acta_judge.specs.inside.Edges.{by_edges}
use Rattle.acta_judge.proofs.Collecting.{match-IfOk, oks-from}
use Rattle.acta_judge.proofs.edges.report_stretches.Goals as goal

pub returns-in-Ok : goal.returns-in-Ok
returns-in-Ok g c =
    let h = c.in-Ok.ensures in
    let chain = h.1 in
    let reported = by_edges c.map.result.f.1.now.front in
    let now = λ (s : Bor (List (ℕ × Edge))). s.now in
    let parts = chain.1 ∙ ap (λ base. iter_slice (min_len_base base)) c.map.ensures.base ∙ ap iter_slice c.with_min_len.ensures.base ∙ c.par_iter.ensures in
    match-IfOk c.in-Ok.reported _ _ _ h.2 (λ v m.
    m.2 ∙ oks-from (λ s. reported (now s)) chain.0 h.0 m.0 chain.2 m.1 ∙ sym (map-map reported now chain.0) ∙ ap (map reported) parts
    ∙ ap (λ f. map (by_edges f.1.now.front) c.args.stretches.now) c.map.ensures.f)
