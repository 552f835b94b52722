-- Statements about an event's refusal that hold whatever later events come.
use Rattle.std.specs.Prelude.{◌≡◌, ◌==◌, ℕ, Bool, true, false, ⊤, List, [], None, Some, is_some}
use Rattle.std.specs.List.{list_all, list_any}
use Rattle.std.specs.Option.{option_map_or}
use Rattle.acta_table.specs.declared.answer.Rule.{Rule}
use Rattle.acta_table.specs.declared.answer.Rule.TheVariants.{BeginDep, SerialDep, BeginOnCommit, BeginOnAbort, TerminationDep, OwesAbort, OwesCommit, CommitOrder, WeakBegin, Unpayable}
use Rattle.acta_table.specs.declared.event.Event.{Event}
use Rattle.acta_table.specs.declared.event.Event.TheVariants.{Operate}
use Rattle.acta_table.specs.declared.event.OpNo.{OpNo}
use Rattle.acta_table.specs.declared.model.Parts.{Parts}
use Rattle.acta_table.specs.declared.answer.Status.TheVariants.{Committed, Aborted}
use Rattle.acta_deps.specs.Statuses.{has_begun, is_decided}
use Rattle.acta_sets.specs.Operations.{is_held_in, operation_at}
use Rattle.acta_machine.specs.Changes.{summary_of}
use Rattle.acta_machine.specs.Conflicts.{stands_against, conflicting_holders}
use Rattle.acta_machine.specs.Reasons.{refusal_of, IsSo}
use Rattle.acta_machine.specs.Summary.{Summary}
use Rattle.acta_machine.specs.Table.{State, after_all, operations_in, refusal_in, status_in}
use Rattle.acta_machine.specs.declared.reason.Reason.{Reason}
use Rattle.acta_machine.specs.declared.reason.Reason.TheVariants.{Blocked, Conflict}
use Rattle.acta_hope.specs.BlockKinds.{edge_test}
use Rattle.acta_hope.specs.declared.hoping.Hope.{Hope}
use Rattle.acta_hope.specs.declared.hoping.Hope.TheVariants.{Never, OnceBegun, OnceHeld, OnceDecided, OnceCommitted, OnceAborted, OnceFree, OnceReleased, OnceFewer, Unknown}

-- no later events let the machine admit it
abbrev pub IsHopeless : {A : Type 0} → State A → Event A → Type 0
IsHopeless {A} state e = (es : List (Event A)) → is_some (refusal_in (after_all state es) e) ≡ true

-- after any later events, the event is admitted only if the condition holds then
abbrev pub OnlyWhere : {A : Type 0} → (State A → Type 0) → State A → Event A → Type 0
OnlyWhere {A} P state e =
    (es : List (Event A)) → refusal_in (after_all state es) e ≡ None → P (after_all state es)

-- whether the operation of this number blocks the event: it is in progress and conflicts with it, and its holder is another
-- transaction, not exempt by the acting transaction's class, which hasn't permitted it to work on the object
abbrev pub is_blocking : {A : Type 0} → Parts A → Summary → Event A → ℕ → Bool
is_blocking m s (Operate t ob op) n = option_map_or (stands_against m s t.0 ob op) (operation_at s.operations n) false
is_blocking m s _ n = false

-- the same for a machine's state
abbrev pub is_blocking_in : {A : Type 0} → State A → Event A → OpNo → Bool
is_blocking_in state e op = is_blocking state.model (summary_of state.model state.kept) e op.0

-- the holders of operations that block the event
abbrev pub conflicting_holders_of : {A : Type 0} → Parts A → Summary → Event A → List ℕ
conflicting_holders_of m s (Operate t ob op) = conflicting_holders m s t.0 ob op
conflicting_holders_of m s _ = []

-- the same for a machine's state
abbrev pub conflicting_holders_in : {A : Type 0} → State A → Event A → List ℕ
conflicting_holders_in state e = conflicting_holders_of state.model (summary_of state.model state.kept) e

-- whether the number is in the list, and whether all of the numbers are
abbrev pub is_listed : List ℕ → ℕ → Bool
is_listed vs u = list_any (λ v. v == u) vs

abbrev pub are_listed : List ℕ → List ℕ → Bool
are_listed us vs = list_all (is_listed vs) us

-- the event is refused with the reason's refusal, and what the reason says is true
pub record IsWhy {A : Type 0} (state : State A) (e : Event A) (reason : Reason) : Type 0 where
  pub refusal : refusal_in state e ≡ Some (refusal_of reason)
  pub so : IsSo state.model (summary_of state.model state.kept) e reason

-- the meaning of each hope
abbrev pub Holds : {A : Type 0} → State A → Event A → Hope → Type 0
Holds state e Never = IsHopeless state e
Holds state e (OnceBegun t) = OnlyWhere (λ later. has_begun (status_in later t.0) ≡ true) state e
Holds state e (OnceHeld t op) = OnlyWhere (λ later. is_held_in t.0 (operations_in later) op ≡ true) state e
Holds state e (OnceDecided t) = OnlyWhere (λ later. is_decided (status_in later t.0) ≡ true) state e
Holds state e (OnceCommitted t) = OnlyWhere (λ later. status_in later t.0 ≡ Committed) state e
Holds state e (OnceAborted t) = OnlyWhere (λ later. status_in later t.0 ≡ Aborted) state e
Holds state e (OnceFree op) = OnlyWhere (λ later. is_blocking_in later e op ≡ false) state e
Holds state e (OnceReleased t op) = OnlyWhere (λ later. is_held_in t.0 (operations_in later) op ≡ false) state e
Holds state e OnceFewer = OnlyWhere (λ later. are_listed (conflicting_holders_in state e) (conflicting_holders_in later e) ≡ false) state e
Holds state e Unknown = ⊤

-- the rules by which an edge in force blocks an event
abbrev pub is_of_edge : Rule → Bool
is_of_edge BeginDep = true
is_of_edge SerialDep = true
is_of_edge BeginOnCommit = true
is_of_edge BeginOnAbort = true
is_of_edge TerminationDep = true
is_of_edge OwesAbort = true
is_of_edge OwesCommit = true
is_of_edge CommitOrder = true
is_of_edge WeakBegin = true
is_of_edge Unpayable = true
is_of_edge _ = false

-- whether the event is an operation
abbrev pub is_operate : {A : Type 0} → Event A → Bool
is_operate (Operate t ob op) = true
is_operate _ = false

-- the reasons for which the hope may be `Unknown`
abbrev pub MayBeUnreported : Reason → Type 0
MayBeUnreported (Blocked blocking_edge) = is_of_edge blocking_edge.rule ≡ false
MayBeUnreported _ = ⊥

-- the operation that the reason names blocks the event, or the event breaks the rule by the edge that the reason names
abbrev pub HasForce : {A : Type 0} → State A → Event A → Reason → Type 0
HasForce state e (Conflict op) = is_blocking_in state e op.number ≡ true
HasForce state e (Blocked blocking_edge) = is_of_edge blocking_edge.rule ≡ true → edge_test e blocking_edge.rule (status_in state) blocking_edge.by.edge ≡ true
HasForce state e _ = ⊤
