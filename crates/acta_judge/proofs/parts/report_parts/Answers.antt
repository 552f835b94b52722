use Rattle.std.proofs.Common.{map, ap, sym, ◌∙◌}
use Rattle.std.proofs.lemmas.Simd.{map-map}
use Rattle.std.specs.Borrow.{Bor}
use Rattle.rayon.specs.Lists.{min_len_base, iter_slice}
use Rattle.acta_axioms.specs.Walks.{Walked}
use Rattle.acta_judge.specs.inside.Parts.{faults_ahead}
use Rattle.acta_judge.proofs.Collecting.{match-IfOk, oks-from}
use Rattle.acta_judge.proofs.parts.report_parts.Goals as goal

pub returns-in-Ok : goal.returns-in-Ok
returns-in-Ok g c =
    let h = c.in-Ok.ensures in
    let chain = h.1 in
    let size = c.map.result.f.1.now in
    let now = λ (x : Bor (Walked g.row.A.Denot)). x.now in
    let parts = chain.1 ∙ ap (λ base. iter_slice (min_len_base base)) c.map.ensures.base ∙ ap iter_slice c.with_min_len.ensures.base ∙ c.par_iter.ensures in
    match-IfOk c.in-Ok.reported _ _ _ h.2 (λ v m.
    m.2 ∙ oks-from (λ x. faults_ahead size (now x)) chain.0 h.0 m.0 chain.2 m.1 ∙ sym (map-map (faults_ahead size) now chain.0) ∙ ap (map (faults_ahead size)) parts
    ∙ ap (λ f. map (faults_ahead f.1.now) c.args.parts.now) c.map.ensures.f)
