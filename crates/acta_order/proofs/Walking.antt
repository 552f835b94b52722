-- The items that a walk has passed, one item further.
use Rattle.std.proofs.Common.{arith, ◌≡◌, ℕ, zero, suc, ◌+◌, ◌<◌, List, [], ◌∷◌, ◌++◌, length, take, drop, sym, ap, ◌∙◌}
use Rattle.std.proofs.lemmas.List.{append-nil, append_assoc}
use Rattle.acta_table.specs.declared.event.Kept.{Kept}
use Rattle.acta_table.specs.declared.model.Parts.{Parts}
use Rattle.acta_axioms.specs.Walks.{Walked, with_next, stepped}

goes : {A : Type 0} (m : Parts A) (n : ℕ) (before h : List (Kept A)) → n < length h
    → with_next (record { model = m; front = before ++ take n h; ahead = drop n h }) (drop n h) ≡ record { model = m; front = before ++ take (suc n) h; ahead = drop (suc n) h }
goes m n before [] within = absurd (omega arith)
goes {A} m zero before (k ∷ h) within = ap (λ (f : List (Kept A)). record { model = m; front = f ++ k ∷ []; ahead = h }) (append-nil before)
goes {A} m (suc n) before (k ∷ h) within =
    ap (λ (f : List (Kept A)). with_next (record { model = m; front = f; ahead = drop n h }) (drop n h)) (sym (append_assoc before (k ∷ []) (take n h)))
    ∙ goes m n (before ++ k ∷ []) h (omega arith)
    ∙ ap (λ (f : List (Kept A)). record { model = m; front = f; ahead = drop (suc n) h }) (append_assoc before (k ∷ []) (take (suc n) h))

pub goes-on : {A : Type 0} (m : Parts A) (h : List (Kept A)) (n : ℕ) (w : Walked A) → n < length h → w ≡ record { model = m; front = take n h; ahead = drop n h }
    → stepped w ≡ record { model = m; front = take (n + 1) h; ahead = drop (n + 1) h }
goes-on {A} m h n w within is =
    let next : suc n ≡ n + 1 = omega arith in
    ap stepped is ∙ goes m n [] h within ∙ ap (λ i. record { model = m; front = take i h; ahead = drop i h }) next
