use Rattle.std.proofs.Common.{◌≡◌, ◌<◌, ◌+◌, ◌++◌, ◌∷◌, ◌∙◌, ℕ, length, get_or, slice_set, ap, arith, List, []}
use Rattle.std.proofs.lemmas.List.{get_or_read, length_push}
use Rattle.acta_deps.specs.inside.Places.{latest}
use Rattle.acta_deps.proofs.LastPlaces.{last_pushed, before_pushed}
use Rattle.acta_deps.proofs.places.Places.push.Goals as goal

pub invariant_of-self-2 : goal.invariant_of-self-2
invariant_of-self-2 g c =
    let ts : List ℕ = c.self.inside.txns.items in
    let last : List ℕ = c.lengthen.new.items.items in
    let before : List ℕ = c.self.inside.before.items in
    let t : ℕ = c.args.t.0 in
    let x : ℕ = c.index.result.now in
    let few : length ts < 16384 = rw (c.self.view_is) c.requires.few in
    let linked : length before ≡ length ts = c.self.invariant.linked in
    let h : t < length last = let room = c.in_ok-lengthen.ensures.room in omega arith in
    let before_lasts : (u : ℕ) → get_or last u 0 ≡ latest ts u (length ts) = λ u. c.lengthen.ensures.same u ∙ c.self.invariant.lasts u in
    let t_all : c.put-2.new.items.items ≡ ts ++ t ∷ [] = c.put-2.ensures ∙ ap (λ (xs : List ℕ). xs ++ t ∷ []) c.in_ok-reserve.ensures.items in
    let b_all : c.put.new.items.items ≡ before ++ x ∷ [] = c.put.ensures ∙ ap (λ (xs : List ℕ). xs ++ x ∷ []) c.in_ok-reserve-2.ensures.items in
    let x_is : x ≡ get_or last t 0 = get_or_read last t x h c.index.ensures 0 in
    let lasts : (u : ℕ) → get_or (slice_set last t (length (ts ++ t ∷ []))) u 0 ≡ latest (ts ++ t ∷ []) u (length (ts ++ t ∷ [])) = last_pushed ts last t h before_lasts in
    let befores : (k : ℕ) → k < length (ts ++ t ∷ []) → get_or (before ++ x ∷ []) k 0 ≡ latest (ts ++ t ∷ []) (get_or (ts ++ t ∷ []) k 0) k = before_pushed ts before t x linked (x_is ∙ before_lasts t) c.self.invariant.befores in
    let long : length (ts ++ t ∷ []) ≡ length ts + 1 = length_push ts t in
    let b_long : length (before ++ x ∷ []) ≡ length before + 1 = length_push before x in
    let t_long : length c.put-2.new.items.items ≡ length (ts ++ t ∷ []) = ap (λ (xs : List ℕ). length xs) t_all in
    let len : c.len.result ≡ length (ts ++ t ∷ []) = omega arith in
    record {
      linked = rw (t_all, b_all) (omega arith);
      few = rw t_all (omega arith);
      lasts = λ u. rw (t_all, len) (lasts u);
      befores = rw (t_all, b_all) befores;
    }
