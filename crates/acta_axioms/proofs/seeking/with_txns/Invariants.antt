use Rattle.std.proofs.Common.{◌≡◌, ℕ, ◌||◌, ◌==◌, take}
use Rattle.std.specs.List.{list_any}
use Rattle.acta_axioms.proofs.seeking.with_txns.Given as goal

-- the set contains its old numbers and the transactions so far
abbrev pub invariant-loop-t : goal.invariant-loop-t
invariant-loop-t g l =
    (u : ℕ) → list_any (λ k. k == u) l.all.keys ≡ (list_any (λ k. k == u) l.fn.numbers.keys || list_any (λ t. t.0 == u) (take l.t-index l.txns))
