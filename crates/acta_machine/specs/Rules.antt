-- The rules: each yields `None`, or a refusal with the number that the rule names.
use Rattle.std.specs.Prelude.{ℕ, Bool, false, not, ◌&&◌, nat_lt, nat_le, List, [], ◌∷◌, filter, find, length, if◌then◌else◌, Option, Some, None, is_none, option_and_then}
use Rattle.std.specs.List.{list_any}
use Rattle.std.specs.Option.{option_map_or}
use Rattle.acta_table.specs.declared.event.EventKind.{EventKind}
use Rattle.acta_table.specs.declared.event.EventKind.TheVariants.{Begin as begin_kind, Spawn as spawn_kind, Split as split_kind, Join as join_kind, Delegate as delegate_kind, Form as form_kind, Operate as operate_kind, Commit as commit_kind, Abort as abort_kind, Permit as permit_kind}
use Rattle.acta_table.specs.declared.event.Event.{Event}
use Rattle.acta_table.specs.declared.event.Event.TheVariants.{Begin, Spawn, Split, Join, Delegate, Form, Operate, Commit, Abort, Permit}
use Rattle.acta_table.specs.declared.event.OpNo.{OpNo}
use Rattle.acta_table.specs.declared.dep.Dep.{Dep}
use Rattle.acta_table.specs.declared.answer.Status.{Status}
use Rattle.acta_table.specs.declared.answer.Rule.TheVariants.{Full, NotInProgress, AlreadyBegun, NotInModel, PartnerNotInProgress, NotResponsible, PartialDelegation, BadSet, Conflict, FormTooLate, EdgesFull, NoHeir}
use Rattle.acta_table.specs.declared.answer.Refusal.{Refusal}
use Rattle.acta_table.specs.declared.model.Parts.{Parts}
use Rattle.acta_table.specs.Classes.{class_at, can_start, can_do, is_whole}
use Rattle.acta_table.specs.Dependencies.{is_begin_kind}
use Rattle.acta_table.specs.Edges.{formed}
use Rattle.acta_table.specs.Events.{acting, started, partner, operations_named, transfers_over}
use Rattle.acta_table.specs.Numbered.{first_number, numbers_where, smallest}
use Rattle.acta_table.specs.Sets.{numbers_of, is_named}
use Rattle.acta_table.specs.Policies.{refuses}
use Rattle.acta_table.specs.Refusals.{broken_if, broken_by, first_of}
use Rattle.acta_table.specs.WellFormed.{bad_number, bad_class, bad_object, same_transaction}
use Rattle.acta_table.specs.declared.limits.TheConstants.{MOST_EDGES, MOST_EVENTS}
use Rattle.acta_objects.specs.WellFormed.{bad_operation}
use Rattle.acta_deps.specs.Dependencies.{start_refusal, commit_refusal, abort_refusal, join_refusal}
use Rattle.acta_deps.specs.Statuses.{is_new, has_begun, is_in_progress, has_ended}
use Rattle.acta_sets.specs.Operations.{operation_at, is_held}
use Rattle.acta_machine.specs.Summary.{Summary}
use Rattle.acta_machine.specs.Changes.{edges_due}
use Rattle.acta_machine.specs.Families.{has_class, heir_of}
use Rattle.acta_machine.specs.Conflicts.{stands_against}

-- the history has as many events as it may
unfoldable pub full : Summary → Option Refusal
full s = broken_if (nat_le MOST_EVENTS s.kept) Full

-- the transaction, if its status fails the test
abbrev pub fails : Summary → (Status → Bool) → ℕ → Option ℕ
fails s test t = if test (s.status t) then None else Some t

-- the acting transaction is not in progress
unfoldable pub not_in_progress : {A : Type 0} → Summary → Event A → Option Refusal
not_in_progress s e = broken_by NotInProgress (option_and_then (fails s is_in_progress) (acting e))

-- the started transaction has begun
unfoldable pub already_begun : {A : Type 0} → Summary → Event A → Option Refusal
already_begun s e = broken_by AlreadyBegun (option_and_then (fails s is_new) (started e))

-- whether the class with this number may start by such an event
abbrev pub class_may : {A : Type 0} → Parts A → ℕ → EventKind → Bool
class_may m class kind = option_map_or (can_start kind) (class_at m class) false

-- whether t's class may do such an event
abbrev pub txn_may : {A : Type 0} → Parts A → Summary → ℕ → EventKind → Bool
txn_may m s t kind = has_class (can_do kind) m s t

-- whether t has begun with a class that may form no edges
abbrev pub forms_none : {A : Type 0} → Parts A → Summary → ℕ → Bool
forms_none m s t = has_begun (s.status t) && not (txn_may m s t form_kind)

-- whether the classes allow the event
abbrev pub is_allowed : {A : Type 0} → Parts A → Summary → Event A → Bool
is_allowed m s (Begin t class) = class_may m class.0 begin_kind
is_allowed m s (Spawn t c class) = class_may m class.0 spawn_kind && txn_may m s t.0 spawn_kind
is_allowed m s (Split t u class ops) = class_may m class.0 split_kind && txn_may m s t.0 split_kind
is_allowed m s (Join t u) = txn_may m s t.0 join_kind
is_allowed m s (Delegate t u ops) = txn_may m s t.0 delegate_kind
is_allowed m s (Form kind j i) =
    list_any (can_do form_kind) m.classes && not (forms_none m s j.0) && not (forms_none m s i.0)
is_allowed m s (Operate t ob op) = txn_may m s t.0 operate_kind
is_allowed m s (Commit t) = txn_may m s t.0 commit_kind
is_allowed m s (Abort t) = txn_may m s t.0 abort_kind
is_allowed m s (Permit t u ob) = txn_may m s t.0 permit_kind

-- the classes do not allow the event
unfoldable pub not_in_model : {A : Type 0} → Parts A → Summary → Event A → Option Refusal
not_in_model m s e = broken_if (not (is_allowed m s e)) NotInModel

-- the partner is not in progress
unfoldable pub partner_not_in_progress : {A : Type 0} → Summary → Event A → Option Refusal
partner_not_in_progress s e =
    broken_by PartnerNotInProgress (option_and_then (fails s is_in_progress) (partner e))

-- whether operation n exists and t does not hold it in progress
abbrev pub is_of_another : Summary → ℕ → ℕ → Bool
is_of_another s t n = option_map_or (λ i. not (is_held t i)) (operation_at s.operations n) false

-- the smallest operation named that exists and that t does not hold in progress
abbrev pub not_held : Summary → List OpNo → ℕ → Option ℕ
not_held s ops t = smallest (filter (is_of_another s t) (numbers_of ops))

-- the acting transaction does not hold a named operation in progress
unfoldable pub not_responsible : {A : Type 0} → Summary → Event A → Option Refusal
not_responsible s e =
    broken_by NotResponsible (option_and_then (not_held s (operations_named e)) (acting e))

-- the smallest operation of t's access set that is not named
abbrev pub left_out : Summary → List OpNo → ℕ → Option ℕ
left_out s ops t = find (λ n. not (is_named ops n)) (numbers_where (is_held t) s.operations)

-- whether t's class requires it to transfer all that it holds
abbrev pub wants_whole : {A : Type 0} → Parts A → Summary → ℕ → Bool
wants_whole m s t = has_class (λ class. is_whole class.extent) m s t

-- the same, if the event lists operations to transfer and the class requires all
abbrev pub left_out_by : {A : Type 0} → Parts A → Summary → Event A → ℕ → Option ℕ
left_out_by m s e t =
    if transfers_over e && wants_whole m s t then left_out s (operations_named e) t else None

-- an operation that must be transferred is left out
unfoldable pub partial_delegation : {A : Type 0} → Parts A → Summary → Event A → Option Refusal
partial_delegation m s e =
    broken_by PartialDelegation (option_and_then (left_out_by m s e) (acting e))

-- the smallest operation named that does not exist
abbrev pub unknown_in : Summary → List OpNo → Option ℕ
unknown_in s ops = smallest (filter (λ n. is_none (operation_at s.operations n)) (numbers_of ops))

-- an operation named does not exist
unfoldable pub bad_set : {A : Type 0} → Summary → Event A → Option Refusal
bad_set s e = broken_by BadSet (unknown_in s (operations_named e))

-- whether t's class refuses conflicting operations
abbrev pub refuses_conflicts : {A : Type 0} → Parts A → Summary → ℕ → Bool
refuses_conflicts m s t = has_class (λ k. refuses k.policy) m s t

-- the smallest operation that conflicts with the event's, if the class refuses
abbrev pub first_conflict : {A : Type 0} → Parts A → Summary → Event A → Option ℕ
first_conflict m s (Operate t ob op) =
    if refuses_conflicts m s t.0 then first_number (stands_against m s t.0 ob op) s.operations else None
first_conflict m s _ = None

-- an operation conflicts with the event's, and the class refuses
unfoldable pub conflict : {A : Type 0} → Parts A → Summary → Event A → Option Refusal
conflict m s e = broken_by Conflict (first_conflict m s e)

-- the smaller of j and i that has already begun or ended, so that an edge of this kind comes too late
abbrev pub too_late : Summary → Dep → ℕ → ℕ → Option ℕ
too_late s kind j i =
    if is_begin_kind kind then fails s is_new j
    else smallest (filter (λ t. has_ended (s.status t)) (j ∷ i ∷ []))

-- the same for the edge that the event forms
abbrev pub formed_late : {A : Type 0} → Summary → Event A → Option ℕ
formed_late s (Form kind j i) = too_late s kind j.0 i.0
formed_late s _ = None

-- the edge comes too late
unfoldable pub form_too_late : {A : Type 0} → Summary → Event A → Option Refusal
form_too_late s e = broken_by FormTooLate (formed_late s e)

-- more edges would be in force than allowed
unfoldable pub edges_full : {A : Type 0} → Parts A → Summary → Event A → Option Refusal
edges_full m s e = broken_if (nat_lt MOST_EDGES (length (formed s.edges (edges_due m s e)))) EdgesFull

-- the lowest rule before Conflict that the event breaks
abbrev pub broken_before_conflict : {A : Type 0} → Parts A → Summary → Event A → Option Refusal
broken_before_conflict m s e = first_of (
    full s
    ∷ bad_number e
    ∷ bad_class m e
    ∷ bad_object m e
    ∷ bad_operation m e
    ∷ same_transaction e
    ∷ not_in_progress s e
    ∷ already_begun s e
    ∷ not_in_model m s e
    ∷ partner_not_in_progress s e
    ∷ not_responsible s e
    ∷ partial_delegation m s e
    ∷ bad_set s e
    ∷ [])

-- the lowest rule before EdgesFull that the event breaks
abbrev pub broken_before_edges : {A : Type 0} → Parts A → Summary → Event A → Option Refusal
broken_before_edges m s e =
    first_of (broken_before_conflict m s e ∷ conflict m s e ∷ form_too_late s e ∷ [])

-- the lowest rule before those on dependencies that the event breaks
abbrev pub earlier_broken : {A : Type 0} → Parts A → Summary → Event A → Option Refusal
earlier_broken m s e = first_of (broken_before_edges m s e ∷ edges_full m s e ∷ [])

-- the lowest rule on dependencies that the event breaks
abbrev pub dependency : {A : Type 0} → Summary → Event A → Option Refusal
dependency s (Begin t class) = start_refusal s.status s.edges t.0
dependency s (Spawn t c class) = start_refusal s.status s.edges c.0
dependency s (Split t u class ops) = start_refusal s.status s.edges u.0
dependency s (Join t u) = join_refusal s.status s.edges t.0
dependency s (Commit t) = commit_refusal s.status s.edges t.0
dependency s (Abort t) = abort_refusal s.status s.edges t.0
dependency s _ = None

-- the heir of the transaction that commits, if it is not in progress
abbrev pub lost_heir : {A : Type 0} → Parts A → Summary → Event A → Option ℕ
lost_heir m s (Commit t) = option_and_then (λ p. fails s is_in_progress p.0) (heir_of m s t.0)
lost_heir m s _ = None

-- the heir is not in progress
unfoldable pub no_heir : {A : Type 0} → Parts A → Summary → Event A → Option Refusal
no_heir m s e = broken_by NoHeir (lost_heir m s e)

-- the lowest rule that the event breaks
abbrev pub lowest_broken : {A : Type 0} → Parts A → Summary → Event A → Option Refusal
lowest_broken m s e = first_of (earlier_broken m s e ∷ dependency s e ∷ no_heir m s e ∷ [])
