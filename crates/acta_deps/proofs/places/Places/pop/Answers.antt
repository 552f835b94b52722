use Rattle.std.proofs.Common.{◌≡◌, ◌<◌, ◌-◌, ◌∙◌, ℕ, suc, length, take, get_or, slice_set, arith, List, length-take}
use Rattle.std.proofs.lemmas.List.{get_or_read}
use Rattle.acta_deps.specs.inside.Places.{latest}
use Rattle.acta_deps.proofs.LastPlaces.{in_table, last_popped, before_popped}
use Rattle.acta_deps.proofs.places.Places.pop.Goals as goal

pub index_mut-requires : goal.index_mut-requires
index_mut-requires g c =
    let ts : List ℕ = c.self.inside.txns.items in
    let some : 0 < length ts = rw (c.self.view_is) c.requires in
    let within : c.len-rest.result - 1 < length ts = omega arith in
    let is : c.index-t.result.now ≡ get_or ts (c.len-rest.result - 1) 0 = get_or_read ts (c.len-rest.result - 1) c.index-t.result.now within c.index-t.ensures 0 in
    let known : get_or ts (c.len-rest.result - 1) 0 < length c.self.inside.last.items = in_table ts c.self.inside.last.items c.self.invariant.lasts (c.len-rest.result - 1) within in
    omega arith

pub invariant_of-self : goal.invariant_of-self
invariant_of-self g c =
    let ts : List ℕ = c.self.inside.txns.items in
    let last : List ℕ = c.self.inside.last.items in
    let before : List ℕ = c.self.inside.before.items in
    let n : ℕ = c.len-rest.result - 1 in
    let some : 0 < length ts = rw (c.self.view_is) c.requires in
    let within : n < length ts = omega arith in
    let linked : length before ≡ length ts = c.self.invariant.linked in
    let few = c.self.invariant.few in
    let all : length ts ≡ suc n = omega arith in
    let t_is : c.index-t.result.now ≡ get_or ts n 0 = get_or_read ts n c.index-t.result.now within c.index-t.ensures 0 in
    let x_is : c.index.result.now ≡ get_or before n 0 = get_or_read before n c.index.result.now (omega arith) c.index.ensures 0 in
    let known : get_or ts n 0 < length last = in_table ts last c.self.invariant.lasts n within in
    let t_left : c.truncate.new.self.items ≡ take n ts = c.truncate.ensures.items in
    let b_left : c.truncate-2.new.self.items ≡ take n before = c.truncate-2.ensures.items in
    let lasts : (u : ℕ) → get_or (slice_set last (get_or ts n 0) c.index.result.now) u 0 ≡ latest (take n ts) u (length (take n ts)) = last_popped ts last n c.index.result.now all known (x_is ∙ c.self.invariant.befores n within) c.self.invariant.lasts in
    let befores : (k : ℕ) → k < length (take n ts) → get_or (take n before) k 0 ≡ latest (take n ts) (get_or (take n ts) k 0) k = before_popped ts before n (omega arith) c.self.invariant.befores in
    record {
      linked = rw (t_left, b_left, length-take, length-take) (omega arith);
      few = rw (t_left, length-take) (omega arith);
      lasts = λ u. rw (t_left, t_is) (lasts u);
      befores = rw (t_left, b_left) befores;
    }
