-- The faults and debts of stretches of numbered edges, one after the other.
use Rattle.std.proofs.Common.{◌≡◌, ℕ, ◌+◌, List, [], ◌∷◌, ◌++◌, length, map, flat_map, refl, sym, ap, ◌∙◌, arith}
use Rattle.std.specs.Prelude.{filter_map, option_map}
use Rattle.std.specs.List.{enumerate_from}
use Rattle.std.proofs.lemmas.Grind.{flat_map-append}
use Rattle.std.proofs.lemmas.List.Elements.{filter_map-append}
use Rattle.acta_table.specs.declared.dep.Edge.{Edge}
use Rattle.acta_table.specs.declared.event.Kept.{Kept}
use Rattle.acta_axioms.specs.Legal.{debt_in, owed_on}
use Rattle.acta_judge.specs.Broken.{edge_faults}
use Rattle.acta_judge.specs.inside.Edges.{by_edges}

-- items numbered on from where others end
pub numbered-on : {X : Type 0} (n : ℕ) (xs ys : List X) → enumerate_from n xs ++ enumerate_from (n + length xs) ys ≡ enumerate_from n (xs ++ ys)
numbered-on n [] ys =
    let same : n + 0 ≡ n = omega arith in
    ap (λ k. enumerate_from k ys) same
numbered-on n (x ∷ xs) ys =
    let same : n + length (x ∷ xs) ≡ n + 1 + length xs = omega arith in
    ap (λ es. (n, x) ∷ es) (ap (λ k. enumerate_from (n + 1) xs ++ enumerate_from k ys) same ∙ numbered-on (n + 1) xs ys)

-- the faults of all stretches are those of all edges
pub faults-together : {A : Type 0} (h : List (Kept A)) (ss : List (List (ℕ × Edge))) → flat_map (λ part. part.faults) (map (by_edges h) ss) ≡ flat_map (edge_faults h) (flat_map (λ s. s) ss)
faults-together h [] = refl
faults-together h (s ∷ ss) =
    ap (λ fs. flat_map (edge_faults h) s ++ fs) (faults-together h ss) ∙ sym (flat_map-append (edge_faults h) s (flat_map (λ s. s) ss))

-- and the same for debts
pub owed-together : {A : Type 0} (h : List (Kept A)) (ss : List (List (ℕ × Edge))) → flat_map (λ part. part.owed) (map (by_edges h) ss) ≡ filter_map (λ e. option_map (owed_on e) (debt_in h e.1)) (flat_map (λ s. s) ss)
owed-together h [] = refl
owed-together h (s ∷ ss) =
    let owing = λ (e : ℕ × Edge). option_map (owed_on e) (debt_in h e.1) in
    ap (λ os. filter_map owing s ++ os) (owed-together h ss) ∙ sym (filter_map-append owing s (flat_map (λ s. s) ss))
