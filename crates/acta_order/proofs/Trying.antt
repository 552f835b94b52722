-- The positions that a search has tried, level by level, and the fronts that this refutes.
use Rattle.std.proofs.Common.{◌≡◌, ℕ, ◌+◌, ◌<◌, ◌≤◌, ◌==◌, true, false, List, [], ◌∷◌, ◌++◌, length, fold, refl, sym, ap, ◌∙◌, subst, arith, inl, inr}
use Rattle.std.specs.List.{flat_map}
use Rattle.std.proofs.lemmas.Bool.{true≢false, or_right, or_left, cases_lt, eq-eqb}
use Rattle.std.proofs.lemmas.Grind.{flat_map-append}
use Rattle.std.proofs.lemmas.List.{append-nil, append_assoc}
use Rattle.acta_axioms.specs.Serial.{Values}
use Rattle.acta_order.specs.declared.item.Item.{Item}
use Rattle.acta_order.specs.Earlier.{waits}
use Rattle.acta_order.specs.Orders.{is_in, AreDistinct, IsTimely, IsOrderOf}
use Rattle.acta_order.specs.Search.{at, placed, after, Plays, AreInTurn, IsRefuted, IsPast, IsTried}
use Rattle.acta_order.proofs.Placed.{is_in-append, distinct-split, find-at, at-in, at-other, not-placed, AreWithin}
use Rattle.acta_order.proofs.Timely.{timely-back, take-in, any-in, or_second}
use Rattle.acta_order.proofs.Playing.{plays-front, plays-back}

-- a transaction that is already placed is not a next one
pub refuted-repeat : {A : Type 0} (v : Values A) (g : ℕ → List Item) (lim : ℕ → ℕ) (ts front : List ℕ) (t : ℕ) → is_in front t ≡ true → IsRefuted v g lim ts (front ++ t ∷ [])
refuted-repeat v g lim ts front t there = record {
  none = λ order rest ok is plays.
      true≢false (sym there ∙ distinct-split front t rest (subst AreDistinct (is ∙ append_assoc front (t ∷ []) rest) ok.once));
}

-- nor is one whose group doesn't replay
pub refuted-stuck : {A : Type 0} (v : Values A) (g : ℕ → List Item) (lim : ℕ → ℕ) (ts front : List ℕ) (t : ℕ) → (Plays (fold after v (flat_map g front)) (g t) → ⊥) → IsRefuted v g lim ts (front ++ t ∷ [])
refuted-stuck v g lim ts front t stuck = record {
  none = λ order rest ok is plays.
      let whole = subst (Plays v) (ap (flat_map g) (is ∙ append_assoc front (t ∷ []) rest) ∙ flat_map-append g front (t ∷ rest)) plays in
      stuck (plays-front (fold after v (flat_map g front)) (g t) (flat_map g rest) (plays-back v (flat_map g front) (g t ++ flat_map g rest) whole));
}

-- nor is one that an open one has to precede
pub refuted-early : {A : Type 0} (v : Values A) (g : ℕ → List Item) (lim : ℕ → ℕ) (ts stack : List ℕ) (low j : ℕ) → AreDistinct ts → AreWithin stack (length ts) → AreInTurn lim ts → low < length ts → j < length ts → is_in stack low ≡ false → low < lim (at ts j)
    → IsRefuted v g lim ts (placed ts stack ++ at ts j ∷ [])
refuted-early v g lim ts stack low j d w turn within there out early = record {
  none = λ order rest ok is plays.
      let split : order ≡ placed ts stack ++ at ts j ∷ rest = is ∙ append_assoc (placed ts stack) (at ts j ∷ []) rest in
      let timely = timely-back (waits lim ts) (placed ts stack) (at ts j ∷ rest) (subst (IsTimely (waits lim ts)) split ok.timely) in
      let in_order : is_in (placed ts stack ++ at ts j ∷ rest) (at ts low) ≡ true = sym (ap (λ (xs : List ℕ). is_in xs (at ts low)) split) ∙ ok.each (at ts low) ∙ at-in ts low within in
      let behind = or_second (is_in (placed ts stack) (at ts low)) (is_in (at ts j ∷ rest) (at ts low)) (sym (is_in-append (placed ts stack) (at ts j ∷ rest) (at ts low)) ∙ in_order) (not-placed ts stack low d w within out) in
      let turned = turn j there in
      let apart = at-other ts j low d there within (λ same. omega (arith, same, early, turned)) in
      let in_rest = or_second (at ts j == at ts low) (is_in rest (at ts low)) behind apart in
      true≢false (sym (any-in (λ t. waits lim ts t (at ts j)) rest (at ts low) in_rest (take-in ts (lim (at ts j)) low within early)) ∙ timely.0);
}

-- if all next ones are refuted, and one is open, the placed ones are refuted
pub refuted-all : {A : Type 0} (v : Values A) (g : ℕ → List Item) (lim : ℕ → ℕ) (ts stack : List ℕ) (low : ℕ) → AreDistinct ts → AreWithin stack (length ts) → low < length ts → is_in stack low ≡ false → IsPast v g lim ts stack (length ts) → IsRefuted v g lim ts (placed ts stack)
refuted-all {A} v g lim ts stack low d w within out past = record { none = of }
  where
    of : (order rest : List ℕ) → IsOrderOf (waits lim ts) ts order → order ≡ placed ts stack ++ rest → Plays v (flat_map g order) → ⊥
    of order [] ok is plays =
        true≢false (sym (ok.each (at ts low) ∙ at-in ts low within) ∙ ap (λ (xs : List ℕ). is_in xs (at ts low)) (is ∙ append-nil (placed ts stack)) ∙ not-placed ts stack low d w within out)
    of order (t ∷ rest) ok is plays =
        let in_order : is_in order t ≡ true =
        ap (λ (xs : List ℕ). is_in xs t) is ∙ is_in-append (placed ts stack) (t ∷ rest) t
        ∙ or_right (is_in (placed ts stack) t) (is_in (t ∷ rest) t) (or_left (t == t) (is_in rest t) (eq-eqb t t refl)) in
        let f = find-at ts t (sym (ok.each t) ∙ in_order) in
        (past f.pos f.within).none order rest ok
        (is ∙ ap (λ u. placed ts stack ++ u ∷ rest) (sym f.is) ∙ sym (append_assoc (placed ts stack) (at ts f.pos ∷ []) rest)) plays

-- more is tried
pub past-more : {A : Type 0} (v : Values A) (g : ℕ → List Item) (lim : ℕ → ℕ) (ts stack : List ℕ) (next further : ℕ) → IsPast v g lim ts stack next → ((j : ℕ) → next ≤ j → j < further → IsRefuted v g lim ts (placed ts stack ++ at ts j ∷ [])) → IsPast v g lim ts stack further
past-more v g lim ts stack next further past more j below = elim (cases_lt j next) [ inl lt ↦ past j lt | inr ge ↦ more j ge below ]

pub past-of : {A : Type 0} (v : Values A) (g : ℕ → List Item) (lim : ℕ → ℕ) (ts stack : List ℕ) (next : ℕ) → IsTried v g lim ts stack next → IsPast v g lim ts stack next
past-of v g lim ts [] next tried = tried
past-of v g lim ts (c ∷ below) next tried = tried.0

pub tried-more : {A : Type 0} (v : Values A) (g : ℕ → List Item) (lim : ℕ → ℕ) (ts stack : List ℕ) (next further : ℕ) → IsTried v g lim ts stack next → ((j : ℕ) → next ≤ j → j < further → IsRefuted v g lim ts (placed ts stack ++ at ts j ∷ [])) → IsTried v g lim ts stack further
tried-more v g lim ts [] next further tried more = past-more v g lim ts [] next further tried more
tried-more v g lim ts (c ∷ below) next further tried more = (past-more v g lim ts (c ∷ below) next further tried.0 more, tried.1)

pub tried-first : {A : Type 0} (v : Values A) (g : ℕ → List Item) (lim : ℕ → ℕ) (ts : List ℕ) → IsTried v g lim ts [] 0
tried-first v g lim ts j below = absurd (omega (arith, below))

pub tried-push : {A : Type 0} (v : Values A) (g : ℕ → List Item) (lim : ℕ → ℕ) (ts stack : List ℕ) (c : ℕ) → IsTried v g lim ts stack c → IsTried v g lim ts (c ∷ stack) 0
tried-push v g lim ts stack c tried = (λ j below. absurd (omega (arith, below)), tried)

pub tried-pop : {A : Type 0} (v : Values A) (g : ℕ → List Item) (lim : ℕ → ℕ) (ts below : List ℕ) (c next : ℕ) → IsTried v g lim ts (c ∷ below) next → IsRefuted v g lim ts (placed ts (c ∷ below)) → IsTried v g lim ts below (c + 1)
tried-pop v g lim ts below c next tried refuted =
    tried-more v g lim ts below c (c + 1) tried.1
    (λ j low high. let same : c ≡ j = omega (arith, low, high) in subst (λ i. IsRefuted v g lim ts (placed ts below ++ at ts i ∷ [])) same refuted)
