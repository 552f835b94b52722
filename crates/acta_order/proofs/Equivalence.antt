-- Two ways to place the same transactions that leave the same values have the same futures.
use Rattle.std.proofs.Common.{◌≡◌, ℕ, ◌==◌, Bool, true, false, ◌||◌, List, [], ◌∷◌, ◌++◌, fold, refl, sym, ap, ◌∙◌, subst}
use Rattle.std.specs.List.{flat_map}
use Rattle.std.proofs.lemmas.Bool.{true≢false, or_parts, or_from, or_left, eqb-true, eq-eqb}
use Rattle.std.proofs.lemmas.Grind.{flat_map-append}
use Rattle.acta_axioms.specs.Serial.{Values}
use Rattle.acta_order.specs.declared.item.Item.{Item}
use Rattle.acta_order.specs.Earlier.{waits}
use Rattle.acta_order.specs.Orders.{is_in, AreDistinct, IsTimely, IsOrderOf}
use Rattle.acta_order.specs.Search.{after, Plays, IsRefuted}
use Rattle.acta_order.proofs.Placed.{is_in-append}
use Rattle.acta_order.proofs.Timely.{timely-back, timely-apart, timely-join}
use Rattle.acta_order.proofs.Playing.{plays-back, plays-both}

-- the parts of a list without repeats, and how they make one again
distinct-back : (xs ys : List ℕ) → AreDistinct (xs ++ ys) → AreDistinct ys
distinct-back [] ys d = d
distinct-back (x ∷ xs) ys d = distinct-back xs ys d.1

distinct-apart : (xs ys : List ℕ) (t : ℕ) → AreDistinct (xs ++ ys) → is_in ys t ≡ true → is_in xs t ≡ false
distinct-apart [] ys t d there = refl
distinct-apart (x ∷ xs) ys t d there =
    let far = or_parts (is_in xs x) (is_in ys x) (sym (is_in-append xs ys x) ∙ d.0) in
    of (x == t) refl far.1 (distinct-apart xs ys t d.1 there)
  where
    of : (b : Bool) → (x == t) ≡ b → is_in ys x ≡ false → is_in xs t ≡ false → (b || is_in xs t) ≡ false
    of true e none later = absurd (true≢false (sym there ∙ sym (ap (is_in ys) (eqb-true x t e)) ∙ none))
    of false e none later = later

distinct-join : (xs ys : List ℕ) → AreDistinct xs → AreDistinct ys → ((t : ℕ) → is_in ys t ≡ true → is_in xs t ≡ false) → AreDistinct (xs ++ ys)
distinct-join [] ys dx dy apart = dy
distinct-join (x ∷ xs) ys dx dy apart = (
  is_in-append xs ys x ∙ or_from (is_in xs x) (is_in ys x) dx.0 (of (is_in ys x) refl),
  distinct-join xs ys dx.1 dy (λ t there. (or_parts (x == t) (is_in xs t) (apart t there)).1),
)
  where
    of : (b : Bool) → is_in ys x ≡ b → b ≡ false
    of true e = absurd (true≢false (sym (or_left (x == x) (is_in xs x) (eq-eqb x x refl)) ∙ apart x e))
    of false e = refl

pub refuted-equivalent : {A : Type 0} (v : Values A) (g : ℕ → List Item) (lim : ℕ → ℕ) (ts front other : List ℕ) → AreDistinct front → IsTimely (waits lim ts) front → Plays v (flat_map g front)
    → ((t : ℕ) → is_in front t ≡ is_in other t) → fold after v (flat_map g front) ≡ fold after v (flat_map g other) → IsRefuted v g lim ts front → IsRefuted v g lim ts other
refuted-equivalent {A} v g lim ts front other distinct timely plays same values refuted = record {
  none = λ order rest ok is plays_all.
      let d : AreDistinct (other ++ rest) = subst AreDistinct is ok.once in
      let at_time : IsTimely (waits lim ts) (other ++ rest) = subst (IsTimely (waits lim ts)) is ok.timely in
      let whole = subst (Plays v) (ap (flat_map g) is ∙ flat_map-append g other rest) plays_all in
      let back = subst (λ (w : Values A). Plays w (flat_map g rest)) (sym values) (plays-back v (flat_map g other) (flat_map g rest) whole) in
      let again : IsOrderOf (waits lim ts) ts (front ++ rest) = record {
        each = λ t.
            is_in-append front rest t ∙ ap (λ b. b || is_in rest t) (same t) ∙ sym (is_in-append other rest t) ∙ sym (ap (λ (xs : List ℕ). is_in xs t) is) ∙ ok.each t;
        once = distinct-join front rest distinct (distinct-back other rest d) (λ t there. same t ∙ distinct-apart other rest t d there);
        timely = timely-join (waits lim ts) front rest timely (timely-back (waits lim ts) other rest at_time) (λ u there. timely-apart (waits lim ts) other rest u at_time (sym (same u) ∙ there));
      } in
      refuted.none (front ++ rest) rest again refl
      (subst (Plays v) (sym (flat_map-append g front rest)) (plays-both v (flat_map g front) (flat_map g rest) plays back));
}
