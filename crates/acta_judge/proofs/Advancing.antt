-- The places of a walk, part by part.
use Rattle.std.proofs.Common.{◌≡◌, ℕ, ◌+◌, List, [], ◌∷◌, ◌++◌, length, take, drop, flat_map, append_assoc, append-nil, sym, ap, refl, ◌∙◌, arith}
use Rattle.std.specs.Prelude.{zero, suc}
use Rattle.std.proofs.Math.Seq.{take-add, drop-nil}
use Rattle.std.proofs.Math.ListN.{drop_of_length-le}
use Rattle.std.proofs.lemmas.Grind.{flat_map-append}
use Rattle.std.proofs.lemmas.List.{take_all, take-append-drop}
use Rattle.acta_table.specs.declared.event.Kept.{Kept}
use Rattle.acta_axioms.specs.Faults.{faults_at}
use Rattle.acta_axioms.specs.History.{places_after}
use Rattle.acta_axioms.specs.Walks.{Walked, stepped, with_next}
use Rattle.acta_axioms.proofs.Growth.{places_after-append}
use Rattle.acta_judge.specs.inside.Parts.{advanced, at_end, faults_ahead, faults_left}

drop-add : {X : Type 0} (a b : ℕ) (xs : List X) → drop b (drop a xs) ≡ drop (a + b) xs
drop-add zero b xs =
    let same : b ≡ 0 + b = omega arith in
    ap (λ n. drop n xs) same
drop-add (suc a) b [] = drop-nil b ∙ sym (drop-nil (suc a + b))
drop-add (suc a) b (x ∷ xs) =
    let same : suc (a + b) ≡ suc a + b = omega arith in
    drop-add a b xs ∙ ap (λ n. drop n (x ∷ xs)) same

-- some items further, and then others
pub advanced-add : {A : Type 0} (a b : ℕ) (w : Walked A) → advanced b (advanced a w) ≡ advanced (a + b) w
advanced-add a b w =
    let front = append_assoc w.front (take a w.ahead) (take b (drop a w.ahead)) ∙ ap (λ xs. w.front ++ xs) (sym (take-add a b w.ahead)) in
    let ahead = drop-add a b w.ahead in
    λ i. record { model = w.model; front = front i; ahead = ahead i }

-- a step goes one item further
pub stepped-advanced : {A : Type 0} (w : Walked A) → stepped w ≡ advanced 1 w
stepped-advanced {A} w = by_items w.ahead refl
  where
    by_items : (ks : List (Kept A)) → w.ahead ≡ ks → with_next w ks ≡ (let v : Walked A = record { model = w.model; front = w.front ++ take 1 ks; ahead = drop 1 ks } in v)
    by_items [] is =
        let front = sym (append-nil w.front) in
        λ i. let v : Walked A = record { model = w.model; front = front i; ahead = is i } in v
    by_items (k ∷ ks) is = refl

-- zero items further is where the walk is
pub advanced-none : {A : Type 0} (w : Walked A) → w ≡ advanced 0 w
advanced-none w =
    let front = sym (append-nil w.front) in
    λ i. record { model = w.model; front = front i; ahead = w.ahead }

-- all items further is the end
pub advanced-all : {A : Type 0} (w : Walked A) → advanced (length w.ahead) w ≡ at_end w
advanced-all w =
    let whole = take_all (length w.ahead) w.ahead (omega arith) in
    let none = drop_of_length-le w.ahead {i = length w.ahead} (omega arith) in
    λ i. record { model = w.model; front = w.front ++ whole i; ahead = none i }

-- a walk that has gone further has the same end
pub end-advanced : {A : Type 0} (n : ℕ) (w : Walked A) → at_end (advanced n w) ≡ at_end w
end-advanced n w =
    let front = append_assoc w.front (take n w.ahead) (drop n w.ahead) ∙ ap (λ xs. w.front ++ xs) (take-append-drop n w.ahead) in
    λ i. record { model = w.model; front = front i; ahead = [] }

-- the faults at some places and at others after them are those at both
faults-behind : {A : Type 0} (w : Walked A) (some others : List (Kept A)) →
    flat_map (faults_at w.model) (places_after w.front some) ++ flat_map (faults_at w.model) (places_after (w.front ++ some) others)
    ≡ flat_map (faults_at w.model) (places_after w.front (some ++ others))
faults-behind w some others =
    sym (
    ap (flat_map (faults_at w.model)) (places_after-append w.front some others)
    ∙ flat_map-append (faults_at w.model) (places_after w.front some) (places_after (w.front ++ some) others))

-- the faults at some places, and at the next
pub faults-add : {A : Type 0} (a b : ℕ) (w : Walked A) → faults_ahead a w ++ faults_ahead b (advanced a w) ≡ faults_ahead (a + b) w
faults-add a b w =
    faults-behind w (take a w.ahead) (take b (drop a w.ahead))
    ∙ ap (λ ks. flat_map (faults_at w.model) (places_after w.front ks)) (sym (take-add a b w.ahead))

-- the faults at some places, and at all that are left
pub faults-rest : {A : Type 0} (n : ℕ) (w : Walked A) → faults_ahead n w ++ faults_left (advanced n w) ≡ faults_left w
faults-rest n w =
    faults-behind w (take n w.ahead) (drop n w.ahead)
    ∙ ap (λ ks. flat_map (faults_at w.model) (places_after w.front ks)) (take-append-drop n w.ahead)
