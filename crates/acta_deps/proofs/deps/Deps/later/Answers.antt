use Rattle.std.proofs.Common.{◌≡◌, ◌<◌, ◌≤◌, ◌-◌, ◌∙◌, ℕ, List, length, take, map, get_or, sym, ap, arith}
use Rattle.std.specs.Option.{option_or}
use Rattle.std.proofs.lemmas.List.{length-map}
use Rattle.acta_table.specs.declared.dep.Edge.{Edge}
use Rattle.acta_table.specs.Numbered.{first_number}
use Rattle.acta_table.specs.declared.answer.Status.{Status}
use Rattle.acta_deps.specs.Deps.{status_of}
use Rattle.acta_deps.specs.inside.BlockKinds.{blocks, party}
use Rattle.acta_deps.specs.declared.block_kind.BlockKind.TheVariants.{CommittedFirst, BeganFirst, CannotPayCommit}
use Rattle.acta_deps.specs.inside.Places.{latest}
use Rattle.acta_deps.proofs.Parties.{bars_party}
use Rattle.acta_deps.proofs.LastPlaces.{latest_le}
use Rattle.acta_deps.proofs.Walks.{walk_within, walk_on, first_start, first_step}
use Rattle.acta_deps.proofs.deps.Deps.later.Goals as goal

pub loop-place-init : goal.loop-place-init
loop-place-init g c =
    let t : ℕ = c.args.t.0 in
    let ps : List ℕ = c.parties-parties.result.now in
    let es : List Edge = c.edges-edges.result.now in
    let s : ℕ → Status = status_of c.args.self.now in
    let all : ps ≡ map (party CommittedFirst) es = c.parties-parties.ensures ∙ ap (λ (xs : List Edge). map (party CommittedFirst) xs) (sym c.edges-edges.ensures.edges) in
    let long : length ps ≡ length es = ap (λ (xs : List ℕ). length xs) all ∙ length-map es (party CommittedFirst) in
    let within : c.last-place.result ≤ length ps = walk_within ps t (length ps) c.last-place.result c.last-place.ensures in
    record {
      within = omega arith;
      on = walk_on ps t (length ps) c.last-place.result c.last-place.ensures;
      order = first_start (blocks CommittedFirst s t) (party CommittedFirst) t (bars_party CommittedFirst s t) es ps all c.last-place.result c.last-place.ensures;
      begun = first_start (blocks BeganFirst s t) (party CommittedFirst) t (bars_party BeganFirst s t) es ps all c.last-place.result c.last-place.ensures;
      unpayable = first_start (blocks CannotPayCommit s t) (party CommittedFirst) t (bars_party CannotPayCommit s t) es ps all c.last-place.result c.last-place.ensures;
    }

pub loop-place-smaller : goal.loop-place-smaller
loop-place-smaller g c =
    let ps : List ℕ = c.parties-parties.result.now in
    let place : ℕ = c.loop-place.place in
    let le : latest ps (get_or ps (place - 1) 0) (place - 1) ≤ place - 1 = latest_le ps (get_or ps (place - 1) 0) (place - 1) in
    let is : c.before-place.result ≡ latest ps (get_or ps (place - 1) 0) (place - 1) = c.before-place.ensures in
    omega arith

pub loop-place-preserved : goal.loop-place-preserved
loop-place-preserved g c =
    let t : ℕ = c.args.t.0 in
    let ps : List ℕ = c.parties-parties.result.now in
    let es : List Edge = c.edges-edges.result.now in
    let place : ℕ = c.loop-place.place in
    let next : ℕ = c.before-place.result in
    let s : ℕ → Status = status_of c.args.self.now in
    let all : ps ≡ map (party CommittedFirst) es = c.parties-parties.ensures ∙ ap (λ (xs : List Edge). map (party CommittedFirst) xs) (sym c.edges-edges.ensures.edges) in
    let is : next ≡ latest ps (get_or ps (place - 1) 0) (place - 1) = c.before-place.ensures in
    let le : latest ps (get_or ps (place - 1) 0) (place - 1) ≤ place - 1 = latest_le ps (get_or ps (place - 1) 0) (place - 1) in
    let some : 0 < place = c.loop-place-test.true in
    let within : place ≤ length es = c.loop-place.invariant.within in
    let on : get_or ps (place - 1) 0 ≡ t = c.loop-place.invariant.on some in
    record {
      within = omega arith;
      on = walk_on ps t (place - 1) next (is ∙ ap (λ u. latest ps u (place - 1)) on);
      order =
          ap (λ o. option_or (first_number (blocks CommittedFirst s t) (take next es)) o) c.or_here-order.ensures
          ∙ first_step (blocks CommittedFirst s t) (party CommittedFirst) t (bars_party CommittedFirst s t) es ps all place next _ c.is_blocked.result c.loop-place.order some within c.is_blocked.ensures on is
          ∙ c.loop-place.invariant.order;
      begun =
          ap (λ o. option_or (first_number (blocks BeganFirst s t) (take next es)) o) c.or_here-begun.ensures
          ∙ first_step (blocks BeganFirst s t) (party CommittedFirst) t (bars_party BeganFirst s t) es ps all place next _ c.is_blocked-in-loop-place.result c.loop-place.begun some within c.is_blocked-in-loop-place.ensures on is
          ∙ c.loop-place.invariant.begun;
      unpayable =
          ap (λ o. option_or (first_number (blocks CannotPayCommit s t) (take next es)) o) c.or_here-unpayable.ensures
          ∙ first_step (blocks CannotPayCommit s t) (party CommittedFirst) t (bars_party CannotPayCommit s t) es ps all place next _ c.is_blocked-in-loop-place-2.result c.loop-place.unpayable some within c.is_blocked-in-loop-place-2.ensures on is
          ∙ c.loop-place.invariant.unpayable;
    }
