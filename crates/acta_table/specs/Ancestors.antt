-- The chain of a transaction's ancestors: its parent, the parent's parent, and so on.
use Rattle.std.specs.Prelude.{ℕ, zero, suc, List, [], ◌∷◌, Option, Some, None}
use Rattle.acta_table.specs.declared.event.TxnId.{TxnId}

-- the chain from this transaction up, at most n transactions; empty if there is no such transaction
abbrev pub ancestors_from : ℕ → (ℕ → Option TxnId) → Option TxnId → List TxnId
ancestors_from n parent None = []
ancestors_from zero parent (Some p) = []
ancestors_from (suc n) parent (Some p) = p ∷ ancestors_from n parent (parent p.0)
