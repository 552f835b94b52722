-- The key of a point.
use Rattle.std.specs.Prelude.{◌≡◌, ℕ, ◌+◌, None, List, length, filter, get_or}
use Rattle.std.specs.List.Sorted.{IsPermutation, IsSorted, IsSortedByKey, IsStrictlySortedBy}
use Rattle.std.specs.Ordering.{nat_cmp, on, then_cmp}
use Rattle.std.specs.declared.cmp.Ordering.{Ordering}
use Rattle.acta_table.specs.declared.answer.Status.TheVariants.{NotBegun}
use Rattle.acta_table.specs.declared.dep.Edge.{Edge}
use Rattle.acta_table.specs.Dependencies.{code_of}
use Rattle.acta_sets.specs.Permits.{is_listed, permit_cmp}
use Rattle.acta_machine.specs.Table.{State, status_in, class_in, parent_in, permitted_in, edges_in}
use Rattle.acta_explore.specs.declared.key.Key.{Key}
use Rattle.acta_explore.specs.declared.key.Txn.{Txn}
use Rattle.acta_explore.specs.Equivalence.{is_on, line_ops}
use Rattle.acta_explore.specs.Points.{Point}
use Rattle.acta_explore.specs.Programs.{Programs, lines_done}

-- a transaction that has not begun
abbrev pub no_txn : Txn
no_txn = record { status = NotBegun; class = None; parent = None }

-- the machine's record of a transaction
abbrev pub txn_in : {A : Type 0} → State A → ℕ → Txn
txn_in state t = record { status = status_in state t; class = class_in state t; parent = parent_in state t }

-- the order of edges: by the kind's code, then by j, then by i
abbrev pub edge_cmp : Edge → Edge → Ordering
edge_cmp = then_cmp (then_cmp (on (λ e. code_of e.kind) nat_cmp) (on (λ e. e.j.0) nat_cmp)) (on (λ e. e.i.0) nat_cmp)

-- the last record is not that of a transaction that has not begun
abbrev pub IsTrimmed : List Txn → Type 0
IsTrimmed txns = (t : ℕ) → length txns ≡ t + 1 → get_or txns t no_txn ≡ no_txn → ⊥

-- what a point determines, and the same for equivalent points: lists whose order is not fixed by the point are sorted
pub record IsKeyOf {A : Type 0} (programs : Programs A) (p : Point A) (key : Key A) : Type 0 where
  pub kept : key.kept ≡ length p.state.kept
  pub lines : key.lines.items ≡ lines_done programs p.steps
  pub txns : (t : ℕ) → get_or key.txns.items t no_txn ≡ txn_in p.state t
  pub trimmed : IsTrimmed key.txns.items
  pub edges : IsPermutation (edges_in p.state) key.edges.items
  pub edges_ascend : IsSorted edge_cmp key.edges.items
  pub operations : (ob : ℕ) → filter (is_on ob) key.operations.items ≡ filter (is_on ob) (line_ops p)
  pub operations_ascend : IsSortedByKey (λ o. o.held.ob.0) nat_cmp key.operations.items
  pub permits : (h t object : ℕ) → is_listed key.permits.items h t object ≡ permitted_in p.state h t object
  pub permits_ascend : IsStrictlySortedBy permit_cmp key.permits.items
