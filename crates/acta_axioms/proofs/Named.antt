-- Properties of all transactions that items name.
use Rattle.std.proofs.Common.{ℕ, ◌+◌, ◌<◌, ◌≤◌, List, length, get_or, take, arith}
use Rattle.std.specs.List.{All}
use Rattle.std.proofs.lemmas.List.Elements.{All-more}
use Rattle.acta_table.specs.declared.event.Kept.{Kept}
use Rattle.acta_table.specs.Events.{named}

-- one more item, with a bound that may have grown
pub named-more : {A : Type 0} (h : List (Kept A)) (i n m t : ℕ) (d : Kept A) → i < length h → n ≤ m → t ≤ m → All (λ u. u ≤ t) (named (get_or h i d).event) →
    All (λ k. All (λ u. u ≤ n) (named k.event)) (take i h) → All (λ k. All (λ u. u ≤ m) (named k.event)) (take (i + 1) h)
named-more h i n m t d within grown here is old =
    All-more (λ k. All (λ u. u ≤ m) (named k.event)) h i d within
    (λ k e j b f q. let low : get_or (named (get_or (take i h) k e).event) b f ≤ n = old k e j b f q in omega arith)
    (λ b f q. let low : get_or (named (get_or h i d).event) b f ≤ t = is b f q in omega arith)

-- the same with a strict bound
pub named-below : {A : Type 0} (h : List (Kept A)) (n m : ℕ) → n < m → All (λ k. All (λ u. u ≤ n) (named k.event)) h → All (λ k. All (λ u. u < m) (named k.event)) h
named-below h n m low all k e j b f q = let below : get_or (named (get_or h k e).event) b f ≤ n = all k e j b f q in omega arith
