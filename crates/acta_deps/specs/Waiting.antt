-- Waits-for relations and waits-for cycles.
use Rattle.std.specs.Prelude.{◌≡◌, ℕ, ◌+◌, ◌<◌, true, List, length, get_or}
use Rattle.acta_table.specs.declared.dep.Dep.TheVariants.{Td}
use Rattle.acta_table.specs.declared.dep.Edge.{Edge}
use Rattle.acta_table.specs.declared.event.TxnId.{TxnId}
use Rattle.acta_table.specs.declared.answer.Status.{Status}
use Rattle.acta_table.specs.declared.answer.Status.TheVariants.{InProgress}
use Rattle.acta_table.specs.Edges.{is_among}

-- j waits for i: both are in progress, and by an edge in force j may not end before i
abbrev pub WaitsFor : (ℕ → Status) → List Edge → TxnId → TxnId → Type 0
WaitsFor status edges j i =
    (status j.0 ≡ InProgress) × (status i.0 ≡ InProgress)
    × (is_among edges (record { kind = Td; j = j; i = i }) ≡ true)

-- no transaction: the default for reads past the end of a list
abbrev pub nobody : TxnId
nobody = record { 0 = 0 }

-- each transaction waits for the next
abbrev pub IsChain : (ℕ → Status) → List Edge → List TxnId → Type 0
IsChain status edges chain =
    (k : ℕ) → k + 1 < length chain → WaitsFor status edges (get_or chain k nobody) (get_or chain (k + 1) nobody)

-- the last transaction occurs earlier in the chain, so those from there on form a cycle
abbrev pub IsClosed : List TxnId → Type 0
IsClosed chain =
    (k : ℕ) × (last : ℕ) × (k < last) × (last + 1 ≡ length chain)
    × (get_or chain k nobody ≡ get_or chain last nobody)

-- the chain begins with t
abbrev pub StartsWith : TxnId → List TxnId → Type 0
StartsWith t chain = (0 < length chain) × (get_or chain 0 nobody ≡ t)
