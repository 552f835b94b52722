-- The transactions in the order of their commits are tried first.
use Rattle.std.proofs.Common.{◌≡◌, ℕ, ◌+◌, ◌<◌, ◌≤◌, true, ◌⊎◌, List, [], ◌∷◌, ◌++◌, length, take, drop, refl, sym, ap, ◌∙◌, subst, arith, inl, inr}
use Rattle.std.specs.List.{flat_map}
use Rattle.std.proofs.lemmas.Bool.{true≢false, cases_lt}
use Rattle.std.proofs.lemmas.List.{take_all, take_more, take-append-drop}
use Rattle.acta_axioms.specs.Serial.{Values}
use Rattle.acta_order.specs.declared.item.Item.{Item}
use Rattle.acta_order.specs.Earlier.{waits}
use Rattle.acta_order.specs.Orders.{is_in, AreDistinct, IsOrderOf}
use Rattle.acta_order.specs.Search.{at, placed, Plays, IsTried}
use Rattle.acta_order.proofs.Placed.{AreWithin, within-top, within-below, at-in, placed-find}
use Rattle.acta_order.proofs.Timely.{take-in, find-taken, same-at}
use Rattle.acta_order.proofs.Trying.{past-of}

-- a front of these, one longer
front-more : (ts : List ℕ) (n : ℕ) → n < length ts → take (n + 1) ts ≡ take n ts ++ at ts n ∷ []
front-more ts n within = take_more ts n 0 within

front-first : {A : Type 0} (v : Values A) (g : ℕ → List Item) (lim : ℕ → ℕ) (ts stack : List ℕ) (next : ℕ) → AreDistinct ts → AreWithin stack (length ts) → AreDistinct stack → IsOrderOf (waits lim ts) ts ts → Plays v (flat_map g ts) → IsTried v g lim ts stack next
    → placed ts stack ≡ take (length stack) ts
front-first v g lim ts [] next d w s ok plays tried = refl
front-first v g lim ts (c ∷ below) next d w s ok plays tried =
    of (front-first v g lim ts below c d (within-below c below (length ts) w) s.1 ok plays tried.1) (cases_lt (length below) c) (cases_lt c (length below))
  where
    w_below : AreWithin below (length ts)
    w_below = within-below c below (length ts) w

    high : c < length ts
    high = within-top c below (length ts) w

    of : placed ts below ≡ take (length below) ts → (length below < c) ⊎ (c ≤ length below) → (c < length below) ⊎ (length below ≤ c) → placed ts (c ∷ below) ≡ take (length (c ∷ below)) ts
    of before (inl lt) other =
        let n = length below in
        let refuted = past-of v g lim ts below c tried.1 n lt in
        let whole : ts ≡ (placed ts below ++ at ts n ∷ []) ++ drop (n + 1) ts =
        sym (take-append-drop (n + 1) ts) ∙ ap (λ (xs : List ℕ). xs ++ drop (n + 1) ts) (front-more ts n (omega (arith, lt, high)) ∙ ap (λ (xs : List ℕ). xs ++ at ts n ∷ []) (sym before)) in
        absurd (refuted.none ts (drop (n + 1) ts) ok whole plays)
    of before (inr le) (inl lt) =
        let f = placed-find ts below (at ts c) (ap (λ (xs : List ℕ). is_in xs (at ts c)) before ∙ take-in ts (length below) c high lt) in
        let same = same-at ts f.pos c d (w_below f.pos f.there) high f.is in
        absurd (true≢false (sym (subst (λ n. is_in below n ≡ true) same f.there) ∙ s.0))
    of before (inr le) (inr ge) =
        let same : c ≡ length below = omega (arith, le, ge) in
        let more : length below + 1 ≡ length (c ∷ below) = omega arith in
        ap (λ (xs : List ℕ). xs ++ at ts c ∷ []) before ∙ ap (λ n. take (length below) ts ++ at ts n ∷ []) same
        ∙ sym (front-more ts (length below) (omega (arith, same, high))) ∙ ap (λ n. take n ts) more

-- if all positions below were tried, an order that replays is the transactions' own order, if that replays
pub same-first : {A : Type 0} (v : Values A) (g : ℕ → List Item) (lim : ℕ → ℕ) (ts stack : List ℕ) (next : ℕ) → AreDistinct ts → AreWithin stack (length ts) → AreDistinct stack → IsOrderOf (waits lim ts) ts ts → Plays v (flat_map g ts) → IsOrderOf (waits lim ts) ts (placed ts stack) → IsTried v g lim ts stack next
    → placed ts stack ≡ ts
same-first v g lim ts stack next d w s ok plays found tried = front ∙ of (cases_lt (length stack) (length ts))
  where
    front : placed ts stack ≡ take (length stack) ts
    front = front-first v g lim ts stack next d w s ok plays tried

    of : (length stack < length ts) ⊎ (length ts ≤ length stack) → take (length stack) ts ≡ ts
    of (inl lt) =
        let n = length stack in
        let t = find-taken ts n (at ts n) (sym (ap (λ (xs : List ℕ). is_in xs (at ts n)) front) ∙ found.each (at ts n) ∙ at-in ts n lt) in
        let same = same-at ts t.pos n d t.within lt t.is in
        let below = t.below in
        absurd (omega (arith, same, below))
    of (inr ge) = take_all (length stack) ts ge
