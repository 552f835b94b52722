use Rattle.std.proofs.Common.{◌≡◌, ◌<◌, ◌≤◌, ◌-◌, ◌∙◌, ℕ, List, length, map, get_or, sym, ap, arith}
use Rattle.std.proofs.lemmas.List.{length-map}
use Rattle.acta_table.specs.declared.dep.Edge.{Edge}
use Rattle.acta_table.specs.declared.answer.Status.{Status}
use Rattle.acta_deps.specs.Deps.{status_of}
use Rattle.acta_deps.specs.Statuses.{with_status}
use Rattle.acta_deps.specs.inside.BlockKinds.{owes}
use Rattle.acta_deps.specs.inside.Places.{latest}
use Rattle.acta_deps.proofs.Parties.{owes_party}
use Rattle.acta_deps.proofs.LastPlaces.{latest_le}
use Rattle.acta_deps.proofs.Walks.{walk_within, walk_on, any_start, any_step}
use Rattle.acta_deps.proofs.deps.Deps.owes.Goals as goal

pub loop-place-init : goal.loop-place-init
loop-place-init g c =
    let t : ℕ = c.args.u.0 in
    let s' : ℕ → Status = with_status (status_of c.args.self.now) c.args.change.txn.0 c.args.change.status in
    let ps : List ℕ = c.by_j-parties.result.now in
    let es : List Edge = c.edges-edges.result.now in
    let key : Edge → ℕ = λ (e : Edge). e.j.0 in
    let all : ps ≡ map key es = c.by_j-parties.ensures ∙ ap (λ (xs : List Edge). map key xs) (sym c.edges-edges.ensures.edges) in
    let long : length ps ≡ length es = ap (λ (xs : List ℕ). length xs) all ∙ length-map es key in
    let within : c.last-place.result ≤ length ps = walk_within ps t (length ps) c.last-place.result c.last-place.ensures in
    record {
      within = omega arith;
      on = walk_on ps t (length ps) c.last-place.result c.last-place.ensures;
      rest = any_start (owes c.args.missing s' t) key t (owes_party c.args.missing s' t) es ps all c.last-place.result c.last-place.ensures;
    }

pub loop-place-smaller : goal.loop-place-smaller
loop-place-smaller g c =
    let ps : List ℕ = c.by_j-parties.result.now in
    let place : ℕ = c.loop-place.place in
    let le : latest ps (get_or ps (place - 1) 0) (place - 1) ≤ place - 1 = latest_le ps (get_or ps (place - 1) 0) (place - 1) in
    let is : c.before-place.result ≡ latest ps (get_or ps (place - 1) 0) (place - 1) = c.before-place.ensures in
    omega arith

pub loop-place-preserved : goal.loop-place-preserved
loop-place-preserved g c =
    let t : ℕ = c.args.u.0 in
    let s' : ℕ → Status = with_status (status_of c.args.self.now) c.args.change.txn.0 c.args.change.status in
    let ps : List ℕ = c.by_j-parties.result.now in
    let es : List Edge = c.edges-edges.result.now in
    let key : Edge → ℕ = λ (e : Edge). e.j.0 in
    let place : ℕ = c.loop-place.place in
    let next : ℕ = c.before-place.result in
    let all : ps ≡ map key es = c.by_j-parties.ensures ∙ ap (λ (xs : List Edge). map key xs) (sym c.edges-edges.ensures.edges) in
    let is : next ≡ latest ps (get_or ps (place - 1) 0) (place - 1) = c.before-place.ensures in
    let le : latest ps (get_or ps (place - 1) 0) (place - 1) ≤ place - 1 = latest_le ps (get_or ps (place - 1) 0) (place - 1) in
    let some : 0 < place = c.loop-place-test.true in
    let within : place ≤ length es = c.loop-place.invariant.within in
    let on : get_or ps (place - 1) 0 ≡ t = c.loop-place.invariant.on some in
    record {
      within = omega arith;
      on = walk_on ps t (place - 1) next (is ∙ ap (λ u. latest ps u (place - 1)) on);
      rest = any_step (owes c.args.missing s' t) key t (owes_party c.args.missing s' t) es ps all place next _ some within (sym c.owes_by.ensures ∙ c.if-owes_by.false) on is ∙ c.loop-place.invariant.rest;
    }
