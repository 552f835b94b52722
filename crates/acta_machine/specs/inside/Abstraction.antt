-- The abstraction: the summary that the machine's lists represent.
use Rattle.std.specs.Prelude.{ℕ, List, length, None, slice_get, unwrap_or}
use Rattle.acta_deps.specs.Deps.{DepState, status_of}
use Rattle.acta_table.specs.declared.event.Kept.{Kept}
use Rattle.acta_sets.specs.declared.held_op.HeldOp.{HeldOp}
use Rattle.acta_sets.specs.Permits.{Permitted, permitted}
use Rattle.acta_machine.specs.declared.machine_state.MachineState.{MachineState}
use Rattle.acta_machine.specs.declared.machine_state.TxnRecord.{TxnRecord}
use Rattle.acta_machine.specs.Summary.{Summary}

-- the record of a transaction that has not begun
abbrev pub unbegun : TxnRecord
unbegun = record { class = None; parent = None }

-- the record of a transaction in the table, which has none past its end
abbrev pub record_in : List TxnRecord → ℕ → TxnRecord
record_in records t = unwrap_or (slice_get records t) unbegun

-- the summary of statuses and edges, the table of records, the operations, the permits, and the history
abbrev pub summary_in : {A : Type 0} → DepState → List TxnRecord → List HeldOp → Permitted → List (Kept A) → Summary
summary_in deps records operations permits kept = record {
  kept = length kept;
  status = status_of deps;
  class = λ t. (record_in records t).class;
  parent = λ t. (record_in records t).parent;
  operations = operations;
  edges = deps.edges;
  permits = permits;
}

abbrev pub abstraction : {A : Type 0} → MachineState A → Summary
abstraction b = summary_in b.deps b.records.items b.store.items (permitted b.permits) b.kept.items
