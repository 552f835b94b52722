-- Which edges are in force after some were formed, and how many.
use Rattle.std.proofs.Common.{◌≡◌, ℕ, ◌+◌, ◌≤◌, ◌<◌, Bool, true, false, List, [], ◌∷◌, ◌++◌, length, take, get_or, refl, ap, sym, ◌∙◌, if◌then◌else◌, arith, drop, suc, length-append, drop-cons}
use Rattle.std.proofs.Math.Seq.{take-append_seam}
use Rattle.std.proofs.lemmas.List.{append-nil, append_assoc}
use Rattle.acta_table.specs.declared.dep.Edge.{Edge}
use Rattle.acta_table.specs.Edges.{is_among, with_edge, formed}

le_with_by : (edges : List Edge) (f : Edge) (known : Bool) → length edges ≤ length (if known then edges else edges ++ f ∷ [])
le_with_by edges f true = omega arith
le_with_by edges f false = rw length-append (omega arith)

-- the edges formed are at least those that were in force
pub le_formed : (edges more : List Edge) → length edges ≤ length (formed edges more)
le_formed edges [] = omega arith
le_formed edges (f ∷ fs) =
    let one : length edges ≤ length (with_edge edges f) = le_with_by edges f (is_among edges f) in
    let all : length (with_edge edges f) ≤ length (formed (with_edge edges f) fs) = le_formed (with_edge edges f) fs in
    omega arith

more_with : (edges : List Edge) (f : Edge) (known : Bool) → length (if known then edges else edges ++ f ∷ []) ≤ length edges + 1
more_with edges f true = omega arith
more_with edges f false = rw length-append (omega arith)

-- and at most as many more as were given
pub few_formed : (edges more : List Edge) → length (formed edges more) ≤ length edges + length more
few_formed edges [] = omega arith
few_formed edges (f ∷ fs) =
    let one : length (with_edge edges f) ≤ length edges + 1 = more_with edges f (is_among edges f) in
    let all : length (formed (with_edge edges f) fs) ≤ length (with_edge edges f) + length fs = few_formed (with_edge edges f) fs in
    omega arith

-- if all that are to be formed fit, the edges with the next one fit
pub next_fits : (edges more all : List Edge) (k : ℕ) (d : Edge) (room : ℕ) → k < length more → formed edges (drop k more) ≡ all → length all ≤ room → length (with_edge edges (get_or more k d)) ≤ room
next_fits edges more all k d room h ends fits =
    let e : Edge = get_or more k d in
    let next : formed (with_edge edges e) (drop (suc k) more) ≡ all = sym (ap (λ (xs : List Edge). formed edges xs) (drop-cons more k d h)) ∙ ends in
    let le : length (with_edge edges e) ≤ length (formed (with_edge edges e) (drop (suc k) more)) = le_formed (with_edge edges e) (drop (suc k) more) in
    let same : length (formed (with_edge edges e) (drop (suc k) more)) ≡ length all = ap (λ (xs : List Edge). length xs) next in
    omega arith

with_after : (edges : List Edge) (f : Edge) (known : Bool) → (rest : List Edge) × ((if known then edges else edges ++ f ∷ []) ≡ edges ++ rest)
with_after edges f true = ([], sym (append-nil edges))
with_after edges f false = (f ∷ [], refl)

formed_after : (edges more : List Edge) → (rest : List Edge) × (formed edges more ≡ edges ++ rest)
formed_after edges [] = ([], sym (append-nil edges))
formed_after edges (f ∷ fs) =
    let one = with_after edges f (is_among edges f) in
    let all = formed_after (with_edge edges f) fs in
    (one.0 ++ all.0, all.1 ∙ ap (λ (xs : List Edge). xs ++ all.0) one.1 ∙ append_assoc edges one.0 all.0)

-- the earlier edges stay a prefix
pub take_formed : (edges more : List Edge) → take (length edges) (formed edges more) ≡ edges
take_formed edges more =
    let behind = formed_after edges more in
    ap (λ (xs : List Edge). take (length edges) xs) behind.1 ∙ take-append_seam edges behind.0
