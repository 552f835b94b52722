use Rattle.std.proofs.Common.{◌≡◌, ◌<◌, ◌≤◌, ◌-◌, ◌∙◌, ℕ, Bool, List, length, take, map, get_or, sym, ap, arith}
use Rattle.std.specs.Option.{option_or}
use Rattle.std.proofs.lemmas.List.{length-map}
use Rattle.acta_table.specs.declared.dep.Edge.{Edge}
use Rattle.acta_table.specs.Numbered.{first_number}
use Rattle.acta_deps.specs.inside.BlockKinds.{owes}
use Rattle.acta_deps.specs.inside.Changes.{status_after}
use Rattle.acta_table.specs.declared.answer.Status.{Status}
use Rattle.acta_deps.specs.inside.Places.{latest}
use Rattle.acta_deps.proofs.Parties.{owes_party}
use Rattle.acta_deps.proofs.LastPlaces.{latest_le}
use Rattle.acta_deps.proofs.Walks.{walk_within, walk_on, first_start, first_step}
use Rattle.acta_deps.proofs.deps.Deps.first_owed.Goals as goal

pub loop-place-init : goal.loop-place-init
loop-place-init g c =
    let t : ℕ = c.args.number in
    let s : ℕ → Status = status_after c.args.self.now c.args.change in
    let key : Edge → ℕ = λ (e : Edge). e.j.0 in
    let ps : List ℕ = c.by_j-parties.result.now in
    let es : List Edge = c.edges-edges.result.now in
    let pass : Edge → Bool = owes c.args.missing s t in
    let all : ps ≡ map key es = c.by_j-parties.ensures ∙ ap (λ (xs : List Edge). map key xs) (sym c.edges-edges.ensures.edges) in
    let long : length ps ≡ length es = ap (λ (xs : List ℕ). length xs) all ∙ length-map es key in
    let within : c.last_of-place.result ≤ length ps = walk_within ps t (length ps) c.last_of-place.result c.last_of-place.ensures in
    record {
      within = omega arith;
      on = walk_on ps t (length ps) c.last_of-place.result c.last_of-place.ensures;
      rest = first_start pass key t (owes_party c.args.missing s t) es ps all c.last_of-place.result c.last_of-place.ensures;
    }

pub loop-place-smaller : goal.loop-place-smaller
loop-place-smaller g c =
    let ps : List ℕ = c.by_j-parties.result.now in
    let place : ℕ = c.loop-place.place in
    let le : latest ps (get_or ps (place - 1) 0) (place - 1) ≤ place - 1 = latest_le ps (get_or ps (place - 1) 0) (place - 1) in
    let is : c.before-place.result ≡ latest ps (get_or ps (place - 1) 0) (place - 1) = c.before-place.ensures in
    omega arith

pub loop-place-preserved : goal.loop-place-preserved
loop-place-preserved g c =
    let t : ℕ = c.args.number in
    let s : ℕ → Status = status_after c.args.self.now c.args.change in
    let key : Edge → ℕ = λ (e : Edge). e.j.0 in
    let ps : List ℕ = c.by_j-parties.result.now in
    let es : List Edge = c.edges-edges.result.now in
    let place : ℕ = c.loop-place.place in
    let next : ℕ = c.before-place.result in
    let pass : Edge → Bool = owes c.args.missing s t in
    let all : ps ≡ map key es = c.by_j-parties.ensures ∙ ap (λ (xs : List Edge). map key xs) (sym c.edges-edges.ensures.edges) in
    let is : next ≡ latest ps (get_or ps (place - 1) 0) (place - 1) = c.before-place.ensures in
    let le : latest ps (get_or ps (place - 1) 0) (place - 1) ≤ place - 1 = latest_le ps (get_or ps (place - 1) 0) (place - 1) in
    let some : 0 < place = c.loop-place-test.true in
    let within : place ≤ length es = c.loop-place.invariant.within in
    let on : get_or ps (place - 1) 0 ≡ t = c.loop-place.invariant.on some in
    record {
      within = omega arith;
      on = walk_on ps t (place - 1) next (is ∙ ap (λ u. latest ps u (place - 1)) on);
      rest =
          ap (λ o. option_or (first_number pass (take next es)) o) c.or_here-first.ensures
          ∙ first_step pass key t (owes_party c.args.missing s t) es ps all place next _ c.owes_through.result c.loop-place.first some within c.owes_through.ensures on is
          ∙ c.loop-place.invariant.rest;
    }
