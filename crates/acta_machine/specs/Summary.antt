-- The current state as the written table sees it, without places.
use Rattle.std.specs.Prelude.{ℕ, ◌+◌, ◌==◌, List, [], if◌then◌else◌, Option, None}
use Rattle.acta_table.specs.declared.event.TxnId.{TxnId}
use Rattle.acta_table.specs.declared.event.ClassId.{ClassId}
use Rattle.acta_table.specs.declared.event.ObjId.{ObjId}
use Rattle.acta_table.specs.declared.event.Op.{Op}
use Rattle.acta_table.specs.declared.event.OpNo.{OpNo}
use Rattle.acta_table.specs.declared.answer.Status.{Status}
use Rattle.acta_table.specs.declared.answer.Status.TheVariants.{NotBegun}
use Rattle.acta_table.specs.declared.answer.Fate.{Fate}
use Rattle.acta_table.specs.declared.dep.Edge.{Edge}
use Rattle.acta_table.specs.Edges.{formed}
use Rattle.acta_deps.specs.Statuses.{with_status}
use Rattle.acta_sets.specs.declared.held_op.HeldOp.{HeldOp}
use Rattle.acta_sets.specs.Operations.{added, moved, transferred, ended}
use Rattle.acta_sets.specs.Permits.{Permitted, none_permitted, with_permit, without_permits}

-- `kept` is the number of events, `operations` and `edges` are by number, `permits` are those in force
pub record Summary : Type 0 where
  pub kept : ℕ
  pub status : ℕ → Status
  pub class : ℕ → Option ClassId
  pub parent : ℕ → Option TxnId
  pub operations : List HeldOp
  pub edges : List Edge
  pub permits : Permitted

-- the summary before any event
abbrev pub nothing_yet : Summary
nothing_yet = record {
  kept = 0;
  status = λ _. NotBegun;
  class = λ _. None;
  parent = λ _. None;
  operations = [];
  edges = [];
  permits = none_permitted;
}

-- the function with the value at t changed
abbrev pub with_entry : {X : Type 0} → (ℕ → X) → ℕ → X → ℕ → X
with_entry f t x u = if u == t then x else f u

-- t gets this status
unfoldable pub stood : Summary → TxnId → Status → Summary
stood s t status = record s { status = with_status s.status t.0 status }

-- t ends with this status, and the permits that it gave or received are removed
unfoldable pub terminated : Summary → TxnId → Status → Summary
terminated s t status =
    record s { status = with_status s.status t.0 status; permits = without_permits s.permits t.0 }

-- t permits u to work on the object
unfoldable pub permit_given : Summary → TxnId → TxnId → ObjId → Summary
permit_given s t u ob = record s { permits = with_permit s.permits t.0 u.0 ob.0 }

-- t gets this class and this parent
unfoldable pub entered : Summary → TxnId → Option ClassId → Option TxnId → Summary
entered s t class parent =
    record s { class = with_entry s.class t.0 class; parent = with_entry s.parent t.0 parent }

-- the edges are formed too, unless they are in force already
unfoldable pub linked : Summary → List Edge → Summary
linked s more = record s { edges = formed s.edges more }

-- one more operation, in progress, held by t
unfoldable pub operated : Summary → TxnId → ObjId → Op → Summary
operated s t ob op = record s { operations = added s.operations t ob op }

-- u becomes the holder of these operations
unfoldable pub given : Summary → List OpNo → TxnId → Summary
given s ops u = record s { operations = moved ops u s.operations }

-- all that t holds in progress is transferred to u
unfoldable pub inherited : Summary → TxnId → TxnId → Summary
inherited s t u = record s { operations = transferred t.0 u s.operations }

-- all that t holds in progress gets this fate
unfoldable pub fated : Summary → TxnId → Fate → Summary
fated s t fate = record s { operations = ended t.0 fate s.operations }

-- one more event
unfoldable pub counted : Summary → Summary
counted s = record s { kept = s.kept + 1 }
