-- There is room for the step of an event.
use Rattle.std.proofs.Common.{◌≡◌, ◌<◌, ◌≤◌, ◌+◌, ℕ, Bool, true, false, length, Option, Some, None, arith}
use Rattle.std.specs.Prelude.{IfSome, if◌then◌else◌, nat_lt, option_map}
use Rattle.acta_table.specs.declared.event.Event.{Event}
use Rattle.acta_table.specs.declared.event.OpNo.{OpNo}
use Rattle.acta_table.specs.declared.limits.TheConstants.{MOST_EDGES}
use Rattle.acta_table.specs.Events.{started}
use Rattle.acta_machine.specs.Table.{State, after, answer_to, edges_in, one_more, operations_in}
use Rattle.acta_trace.specs.Steps.{Fits, FitsEvent, Room, ended_by, is_admitted, step_of}
use Rattle.acta_trace.proofs.Counting.{operations-after}

-- what holds of a number holds of it where it counts
if-some : (P : ℕ → Type 0) (b : Bool) (o : Option ℕ) → IfSome o P → IfSome (if b then o else None) P
if-some P true o h = h
if-some P false o h = tt

-- the number of an operation is at most one more than there were
op-within : (n before now : ℕ) (b : Bool) → before + 1 < n → now ≤ before + 1 → IfSome (option_map (λ (op : OpNo). op.0) (if b then Some (record { 0 = now }) else None)) (λ k. k < n)
op-within n before now true room few = omega arith
op-within n before now false room few = tt

pub fits : {A : Type 0} (room : Room) (s : State A) (line : ℕ) (e : Event A) → FitsEvent room e (length (operations_in s) + 1) MOST_EDGES → length (edges_in (after s e)) ≤ MOST_EDGES → Fits room (step_of s line e)
fits room s line e h few = record {
  begun = if-some (λ t. t < room.begun) (is_admitted (answer_to s e)) (started e) h.begun;
  ended = if-some (λ t. t < room.ended) (is_admitted (answer_to s e)) (ended_by e) h.ended;
  operation = op-within room.operations (length (operations_in s)) (length (operations_in (after s e))) (nat_lt (length (operations_in s)) (length (operations_in (after s e)))) h.operation (operations-after s e);
  edges = omega (arith, few, h.edges);
  more = h.more;
}
