-- The written table: the answer to an event, the state after it, whole runs, and the queries.
use Rattle.std.specs.Prelude.{ℕ, ◌+◌, nat_lt, List, [], ◌∷◌, ◌++◌, length, if◌then◌else◌, Option, Some, None}
use Rattle.acta_table.specs.declared.event.OpNo.{OpNo}
use Rattle.acta_table.specs.declared.event.ClassId.{ClassId}
use Rattle.acta_table.specs.declared.event.TxnId.{TxnId}
use Rattle.acta_table.specs.declared.event.Event.{Event}
use Rattle.acta_table.specs.declared.event.Kept.{Kept}
use Rattle.acta_table.specs.declared.dep.Edge.{Edge}
use Rattle.acta_table.specs.declared.dep.Owed.{Owed}
use Rattle.acta_table.specs.declared.answer.Status.{Status}
use Rattle.acta_table.specs.declared.answer.Answer.{Answer}
use Rattle.acta_table.specs.declared.answer.Answer.TheVariants.{Admitted, Refused}
use Rattle.acta_table.specs.declared.answer.Refusal.{Refusal}
use Rattle.acta_table.specs.declared.model.Parts.{Parts}
use Rattle.acta_objects.specs.declared.state.ObjectState.{ObjectState}
use Rattle.acta_deps.specs.Debts.{owed_in}
use Rattle.acta_sets.specs.declared.held_op.HeldOp.{HeldOp}
use Rattle.acta_sets.specs.Operations.{access_set, view_set}
use Rattle.acta_sets.specs.Permits.{Permitted}
use Rattle.acta_machine.specs.Families.{conflict_set_of}
use Rattle.acta_machine.specs.Values.{value_of, return_due}
use Rattle.acta_machine.specs.Rules.{lowest_broken}
use Rattle.acta_machine.specs.Changes.{summary_of}

-- the state of a machine: its model, and the events that it kept with their returns
pub record State (A : Type 0) : Type 0 where
  pub model : Parts A
  pub kept : List (Kept A)

-- the state of a new machine
abbrev pub fresh : {A : Type 0} → Parts A → State A
fresh m = record { model = m; kept = [] }

-- the event with its return
abbrev pub kept_as : {A : Type 0} → State A → Event A → Kept A
kept_as state event =
    record { event = event; ret = return_due state.model (summary_of state.model state.kept) event }

-- the lowest rule that the event would break, with the number that it names
abbrev pub refusal_in : {A : Type 0} → State A → Event A → Option Refusal
refusal_in state event = lowest_broken state.model (summary_of state.model state.kept) event

-- the answer, given the broken rule, if there is one
abbrev pub answered : {A : Type 0} → State A → Event A → Option Refusal → Answer
answered state event None = Admitted (length state.kept + 1) (kept_as state event).ret
answered state event (Some r) = Refused r.rule r.by

-- the next state, given the same
abbrev pub moved_on : {A : Type 0} → State A → Event A → Option Refusal → State A
moved_on state event None = record state { kept = state.kept ++ kept_as state event ∷ [] }
moved_on state event (Some r) = state

-- the answer to an event
unfoldable pub answer_to : {A : Type 0} → State A → Event A → Answer
answer_to state event = answered state event (refusal_in state event)

-- the state after the event
unfoldable pub after : {A : Type 0} → State A → Event A → State A
after state event = moved_on state event (refusal_in state event)

-- the answers to a list of events
abbrev pub answers_to : {A : Type 0} → State A → List (Event A) → List Answer
answers_to state [] = []
answers_to state (event ∷ events) = answer_to state event ∷ answers_to (after state event) events

-- the state after a list of events
abbrev pub after_all : {A : Type 0} → State A → List (Event A) → State A
after_all state [] = state
after_all state (event ∷ events) = after_all (after state event) events

-- the answers of a run of a model over a list of events
abbrev pub run_answers : {A : Type 0} → Parts A → List (Event A) → List Answer
run_answers m events = answers_to (fresh m) events

-- the final state of such a run
abbrev pub run_state : {A : Type 0} → Parts A → List (Event A) → State A
run_state m events = after_all (fresh m) events

-- the status of a transaction
abbrev pub status_in : {A : Type 0} → State A → ℕ → Status
status_in state t = (summary_of state.model state.kept).status t

-- the class that a transaction began with
abbrev pub class_in : {A : Type 0} → State A → ℕ → Option ClassId
class_in state t = (summary_of state.model state.kept).class t

-- the transaction that spawned t
abbrev pub parent_in : {A : Type 0} → State A → ℕ → Option TxnId
parent_in state t = (summary_of state.model state.kept).parent t

-- whether h has permitted t to work on the object
abbrev pub permitted_in : {A : Type 0} → State A → Permitted
permitted_in state = (summary_of state.model state.kept).permits

-- the value of an object
abbrev pub value_in : {A : Type 0} → State A → ℕ → Option (ObjectState A)
value_in state object = value_of state.model (summary_of state.model state.kept) object

-- the access set: the operations in progress that t holds
abbrev pub access_set_in : {A : Type 0} → State A → ℕ → List OpNo
access_set_in state t = access_set t (summary_of state.model state.kept).operations

-- the conflict set: the operations in progress that others hold and that are not exempt
abbrev pub conflict_set_in : {A : Type 0} → State A → ℕ → List OpNo
conflict_set_in state t = conflict_set_of state.model (summary_of state.model state.kept) t

-- the view: the operations that are not aborted
abbrev pub view_set_in : {A : Type 0} → State A → List OpNo
view_set_in state = view_set (summary_of state.model state.kept).operations

-- the operations, by number, each with its holder and its fate
abbrev pub operations_in : {A : Type 0} → State A → List HeldOp
operations_in state = (summary_of state.model state.kept).operations

-- the number of the last item, if there are more items than before
abbrev pub one_more : ℕ → ℕ → Option OpNo
one_more before now = if nat_lt before now then Some (record { 0 = now }) else None

-- the number of the operation that an event adds, if it adds one
abbrev pub op_added : {A : Type 0} → State A → Event A → Option OpNo
op_added state event = one_more (length (operations_in state)) (length (operations_in (after state event)))

-- the edges in force, by number
abbrev pub edges_in : {A : Type 0} → State A → List Edge
edges_in state = (summary_of state.model state.kept).edges

-- the debts, by edge number
abbrev pub debts_in : {A : Type 0} → State A → List Owed
debts_in state = owed_in (summary_of state.model state.kept).status (summary_of state.model state.kept).edges
