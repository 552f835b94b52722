use Rattle.std.proofs.Common.{◌≡◌, ◌<◌, ◌≤◌, ◌-◌, ◌∙◌, ℕ, Bool, List, length, take, map, get_or, sym, ap, arith}
use Rattle.std.proofs.lemmas.List.{length-map}
use Rattle.acta_table.specs.declared.dep.Edge.{Edge}
use Rattle.acta_table.specs.declared.answer.Status.{Status}
use Rattle.acta_deps.specs.Deps.{status_of}
use Rattle.acta_deps.specs.Statuses.{with_status}
use Rattle.acta_deps.specs.inside.BlockKinds.{would_owe_both}
use Rattle.acta_deps.specs.inside.Places.{latest}
use Rattle.acta_deps.proofs.Parties.{would_owe_both_party}
use Rattle.acta_deps.proofs.LastPlaces.{latest_le}
use Rattle.acta_deps.proofs.Clashes.{clashing_is_owing_both}
use Rattle.acta_deps.proofs.Walks.{blank, walk_within, walk_on, least_of, least_start, least_step}
use Rattle.acta_deps.proofs.deps.Deps.clashing.Goals as goal

pub loop-place-init : goal.loop-place-init
loop-place-init g c =
    let t : ℕ = c.args.change.txn.0 in
    let s' : ℕ → Status = with_status (status_of c.args.self.now) t c.args.change.status in
    let ps : List ℕ = c.by_i-parties.result.now in
    let es : List Edge = c.args.self.now.edges in
    let key : Edge → ℕ = λ (e : Edge). e.i.0 in
    let all : ps ≡ map key es = c.by_i-parties.ensures in
    let long : length ps ≡ length es = ap (λ (xs : List ℕ). length xs) all ∙ length-map es key in
    let within : c.last-place.result ≤ length ps = walk_within ps t (length ps) c.last-place.result c.last-place.ensures in
    record {
      within = omega arith;
      on = walk_on ps t (length ps) c.last-place.result c.last-place.ensures;
      rest = least_start (would_owe_both s' c.args.self.now.edges t) key t (would_owe_both_party s' c.args.self.now.edges t) es ps all c.last-place.result c.all_owing_both-least.result c.last-place.ensures;
    }

pub loop-place-smaller : goal.loop-place-smaller
loop-place-smaller g c =
    let ps : List ℕ = c.by_i-parties.result.now in
    let place : ℕ = c.loop-place.place in
    let le : latest ps (get_or ps (place - 1) 0) (place - 1) ≤ place - 1 = latest_le ps (get_or ps (place - 1) 0) (place - 1) in
    let is : c.before-place.result ≡ latest ps (get_or ps (place - 1) 0) (place - 1) = c.before-place.ensures in
    omega arith

pub loop-place-preserved : goal.loop-place-preserved
loop-place-preserved g c =
    let t : ℕ = c.args.change.txn.0 in
    let s' : ℕ → Status = with_status (status_of c.args.self.now) t c.args.change.status in
    let ps : List ℕ = c.by_i-parties.result.now in
    let es : List Edge = c.args.self.now.edges in
    let key : Edge → ℕ = λ (e : Edge). e.i.0 in
    let place : ℕ = c.loop-place.place in
    let next : ℕ = c.before-place.result in
    let all : ps ≡ map key es = c.by_i-parties.ensures in
    let is : next ≡ latest ps (get_or ps (place - 1) 0) (place - 1) = c.before-place.ensures in
    let le : latest ps (get_or ps (place - 1) 0) (place - 1) ≤ place - 1 = latest_le ps (get_or ps (place - 1) 0) (place - 1) in
    let some : 0 < place = c.loop-place-test.true in
    let within : place ≤ length es = c.loop-place.invariant.within in
    let on : get_or ps (place - 1) 0 ≡ t = c.loop-place.invariant.on some in
    record {
      within = omega arith;
      on = walk_on ps t (place - 1) next (is ∙ ap (λ u. latest ps u (place - 1)) on);
      rest = least_step (would_owe_both s' c.args.self.now.edges t) key t (would_owe_both_party s' c.args.self.now.edges t) es ps all place next _ c.loop-place.least c.with_owing_both-least.result some within (c.with_owing_both-least.ensures blank) on is ∙ c.loop-place.invariant.rest;
    }

pub returns : goal.returns
returns g c =
    let t : ℕ = c.args.change.txn.0 in
    let s' : ℕ → Status = with_status (status_of c.args.self.now) t c.args.change.status in
    let es : List Edge = c.args.self.now.edges in
    let pass : Edge → Bool = would_owe_both s' c.args.self.now.edges t in
    let place : ℕ = c.loop-place.place in
    let none : place ≤ 0 = c.loop-place-test.false in
    let zero : place ≡ 0 = omega arith in
    sym (ap (λ n. least_of pass c.loop-place.least (take n es)) zero)
    ∙ c.loop-place.invariant.rest
    ∙ ap (λ o. least_of pass o c.args.self.now.edges) c.all_owing_both-least.ensures
    ∙ clashing_is_owing_both (status_of c.args.self.now) t c.args.change.status c.args.self.now.edges c.lemma_invariant.ensures.clear
