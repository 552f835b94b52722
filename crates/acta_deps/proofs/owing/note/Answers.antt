use Rattle.std.proofs.Common.{◌≡◌, ◌≤◌, ◌-◌, ℕ, List, length, get_or, arith}
use Rattle.acta_deps.specs.inside.Places.{latest}
use Rattle.acta_deps.proofs.LastPlaces.{latest_le}
use Rattle.acta_deps.proofs.Walks.{walk_within}
use Rattle.acta_deps.proofs.owing.note.Goals as goal

pub loop-place-init : goal.loop-place-init
loop-place-init g c =
    let ps : List ℕ = c.by_i-places.result.now in
    walk_within ps c.args.t.0 (length ps) c.last-place.result c.last-place.ensures

pub loop-place-smaller : goal.loop-place-smaller
loop-place-smaller g c =
    let ps : List ℕ = c.by_i-places.result.now in
    let place : ℕ = c.loop-place.place in
    let le : latest ps (get_or ps (place - 1) 0) (place - 1) ≤ place - 1 = latest_le ps (get_or ps (place - 1) 0) (place - 1) in
    let is : c.before-place.result ≡ latest ps (get_or ps (place - 1) 0) (place - 1) = c.before-place.ensures in
    omega arith

pub loop-place-preserved : goal.loop-place-preserved
loop-place-preserved g c =
    let ps : List ℕ = c.by_i-places.result.now in
    let place : ℕ = c.loop-place.place in
    let le : latest ps (get_or ps (place - 1) 0) (place - 1) ≤ place - 1 = latest_le ps (get_or ps (place - 1) 0) (place - 1) in
    let is : c.before-place.result ≡ latest ps (get_or ps (place - 1) 0) (place - 1) = c.before-place.ensures in
    let within : place ≤ length ps = c.loop-place.invariant in
    omega arith
