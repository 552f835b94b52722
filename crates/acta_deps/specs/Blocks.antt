-- Blocks: why the edges in force keep an event from happening.
use Rattle.std.specs.Prelude.{◌≡◌, ℕ, Bool, List, Some}
use Rattle.acta_table.specs.declared.dep.Edge.{Edge}
use Rattle.acta_table.specs.declared.answer.Refusal.{Refusal}
use Rattle.acta_table.specs.declared.answer.Rule.TheVariants.{Clash as clash_rule}
use Rattle.acta_table.specs.declared.answer.Status.{Status}
use Rattle.acta_table.specs.Numbered.{item_at, first_number}
use Rattle.acta_deps.specs.declared.block.NumberedEdge.{NumberedEdge}
use Rattle.acta_deps.specs.declared.block.BlockingEdge.{BlockingEdge}
use Rattle.acta_deps.specs.declared.block.Clash.{Clash as ClashEdges}
use Rattle.acta_deps.specs.declared.block.Block.{Block}
use Rattle.acta_deps.specs.declared.block.Block.TheVariants.{Edge as by_edge, Clash as by_clash}
use Rattle.acta_deps.specs.Debts.{owes_commit, owes_abort}

-- the rule that the event breaks, with the number that it names: of the edge, or for a clash of the transaction
abbrev pub refusal_of : Block → Refusal
refusal_of (by_edge b) = record { rule = b.rule; by = Some b.by.number }
refusal_of (by_clash c) = record { rule = clash_rule; by = Some c.commit.edge.j.0 }

-- the edge has this number, and its transactions have these statuses
abbrev pub IsBlockingEdge : (ℕ → Status) → List Edge → BlockingEdge → Type 0
IsBlockingEdge status edges b =
    (item_at edges b.by.number ≡ Some b.by.edge) × (b.j ≡ status b.by.edge.j.0) × (b.i ≡ status b.by.edge.i.0)

-- the numbered edge is the first that passes the test
abbrev pub IsFirstBy : (Edge → Bool) → List Edge → NumberedEdge → Type 0
IsFirstBy test edges one =
    (first_number test edges ≡ Some one.number) × (item_at edges one.number ≡ Some one.edge)

-- these are the first edges because of which one transaction owes a commit, and an abort, under these statuses
abbrev pub IsClash : (ℕ → Status) → List Edge → ClashEdges → Type 0
IsClash status edges c =
    IsFirstBy (owes_commit status c.commit.edge.j.0) edges c.commit
    × IsFirstBy (owes_abort status c.commit.edge.j.0) edges c.abort

-- the block is accurate: an edge under the statuses before the event, a clash under those after it
abbrev pub IsBlock : (ℕ → Status) → (ℕ → Status) → List Edge → Block → Type 0
IsBlock status after edges (by_edge b) = IsBlockingEdge status edges b
IsBlock status after edges (by_clash c) = IsClash after edges c
