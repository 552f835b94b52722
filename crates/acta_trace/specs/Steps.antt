-- The steps of a run.
use Rattle.std.specs.Prelude.{ℕ, ◌&&◌, ◌==◌, ◌<◌, ◌≤◌, IfSome, List, Bool, true, false, nat_lt, nat_le, length, option_map, if◌then◌else◌, Option, Some, None}
use Rattle.acta_table.specs.declared.answer.Answer.{Answer}
use Rattle.acta_table.specs.declared.answer.Answer.TheVariants.{Admitted, Refused}
use Rattle.acta_table.specs.declared.event.Event.{Event}
use Rattle.acta_table.specs.declared.event.Event.TheVariants.{Join, Commit, Abort}
use Rattle.acta_table.specs.Events.{started}
use Rattle.acta_machine.specs.Table.{State, after, answer_to, edges_in, op_added}
use Rattle.acta_trace.specs.declared.step.Step.{Step}

-- the step by which a machine in this state takes the event of a line
abbrev pub step_of : {A : Type 0} → State A → ℕ → Event A → Step A
step_of state line event = record {
  line = line;
  event = event;
  answer = answer_to state event;
  op = op_added state event;
  edges_before = length (edges_in state);
  edges_after = length (edges_in (after state event));
}

abbrev pub is_admitted : Answer → Bool
is_admitted (Admitted place ret) = true
is_admitted (Refused rule by) = false

-- the transaction that an event ends if it is admitted
abbrev pub ended_by : {A : Type 0} → Event A → Option ℕ
ended_by (Join t u) = Some t.0
ended_by (Commit t) = Some t.0
ended_by (Abort t) = Some t.0
ended_by _ = None

-- the transaction that the step began
abbrev pub began : {A : Type 0} → Step A → Option ℕ
began step = if is_admitted step.answer then started step.event else None

-- the transaction that the step ended
abbrev pub ended : {A : Type 0} → Step A → Option ℕ
ended step = if is_admitted step.answer then ended_by step.event else None

-- whether there is a number and it is this one
abbrev pub is_number : Option ℕ → ℕ → Bool
is_number None n = false
is_number (Some m) n = m == n

-- whether the step began the transaction of this number
abbrev pub begins : {A : Type 0} → ℕ → Step A → Bool
begins t step = is_number (began step) t

-- whether the step ended the transaction of this number
abbrev pub ends : {A : Type 0} → ℕ → Step A → Bool
ends t step = is_number (ended step) t

-- whether the step did the operation of this number
abbrev pub does : {A : Type 0} → ℕ → Step A → Bool
does n step = is_number (option_map (λ op. op.0) step.op) n

-- whether the step formed the edge of this number
abbrev pub forms : {A : Type 0} → ℕ → Step A → Bool
forms n step = nat_lt step.edges_before n && nat_le n step.edges_after

-- the numbers for which there is room, those below these bounds, of transactions that begin and end, operations and edges;
-- and room for how many more steps
pub record Room : Type 0 where
  pub begun : ℕ
  pub ended : ℕ
  pub operations : ℕ
  pub edges : ℕ
  pub more : ℕ

-- a list of steps, with its room
pub record Listed (A : Type 0) : Type 0 where
  pub steps : List (Step A)
  pub room : Room

-- there is room for this step
pub record Fits {A : Type 0} (room : Room) (step : Step A) : Type 0 where
  pub begun : IfSome (began step) (λ t. t < room.begun)
  pub ended : IfSome (ended step) (λ t. t < room.ended)
  pub operation : IfSome (option_map (λ op. op.0) step.op) (λ n. n < room.operations)
  pub edges : step.edges_after < room.edges
  pub more : 0 < room.more

-- there is room for any step of the event with at most these numbers
pub record FitsEvent {A : Type 0} (room : Room) (event : Event A) (last_op last_edge : ℕ) : Type 0 where
  pub begun : IfSome (started event) (λ t. t < room.begun)
  pub ended : IfSome (ended_by event) (λ t. t < room.ended)
  pub operation : last_op < room.operations
  pub edges : last_edge < room.edges
  pub more : 0 < room.more
