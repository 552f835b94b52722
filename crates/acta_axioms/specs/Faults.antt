-- The faults at a place: for each axiom the numbers by which the event there breaks it, given the items before it.
use Rattle.std.specs.Prelude.{ℕ, Bool, true, false, ◌&&◌, ◌||◌, not, ◌==◌, List, [], ◌∷◌, get_or, map, filter, flat_map, if◌then◌else◌, Option, Some, is_some, option_to_list}
use Rattle.std.specs.List.{list_any}
use Rattle.std.specs.Option.{option_map_or, option_and_then}
use Rattle.std.specs.Ordering.{int_eq}
use Rattle.acta_table.specs.declared.event.Ret.{Ret}
use Rattle.acta_table.specs.declared.event.Ret.TheVariants.{Done, Value, Flag}
use Rattle.acta_table.specs.declared.event.EventKind.{EventKind}
use Rattle.acta_table.specs.declared.event.EventKind.TheVariants.{Form as form_kind}
use Rattle.acta_table.specs.declared.event.Event.{Event}
use Rattle.acta_table.specs.declared.event.Event.TheVariants.{Spawn, Split, Join, Delegate, Form, Operate, Commit, Abort, Permit}
use Rattle.acta_table.specs.declared.event.Kept.{Kept}
use Rattle.acta_table.specs.declared.model.Parts.{Parts}
use Rattle.acta_table.specs.Events.{kind_of, named, acting, started, class_named, operations_named, transfers_over}
use Rattle.acta_table.specs.Classes.{class_at, can_start, can_do, is_whole, has_heir}
use Rattle.acta_table.specs.Dependencies.{is_begin_kind}
use Rattle.acta_table.specs.Numbered.{smallest}
use Rattle.acta_table.specs.Policies.{refuses}
use Rattle.acta_table.specs.Sets.{numbers_of, is_named}
use Rattle.acta_table.specs.WellFormed.{bad_number, bad_class, bad_object, same_transaction}
use Rattle.acta_objects.specs.WellFormed.{bad_operation}
use Rattle.acta_axioms.specs.declared.fault.Fault.{Fault}
use Rattle.acta_axioms.specs.declared.fault.Axiom.{Axiom}
use Rattle.acta_axioms.specs.declared.fault.Axiom.TheVariants.{BegunOnce, EndedAfterBegun, EndedOnce, OperatesInProgress, FormOfEvent, Allowed, PartiesInProgress, Responsible, HandsWhole, Conflict, Return, Heir, FormedInTime}
use Rattle.acta_axioms.specs.History.{Place, number, places, has_begun, has_ended, is_in_progress, has_class, parent_of}
use Rattle.acta_axioms.specs.Operations.{number_after, access_set}
use Rattle.acta_values.specs.Conflicts.{is_well_formed}
use Rattle.acta_axioms.specs.Values.{return_due, conflicting}

-- the number, if the test is true
abbrev pub when : Bool → ℕ → List ℕ
when test n = if test then n ∷ [] else []

-- the first transaction that the event names
abbrev pub first_named : {A : Type 0} → Event A → ℕ
first_named e = get_or (named e) 0 0

-- the transaction that the event ends
abbrev pub ended : {A : Type 0} → Event A → List ℕ
ended (Join t u) = t.0 ∷ []
ended (Commit t) = t.0 ∷ []
ended (Abort t) = t.0 ∷ []
ended _ = []

-- begun once: the transaction that is started has already begun
abbrev pub begun_again : {A : Type 0} → List (Kept A) → Event A → List ℕ
begun_again before e = filter (has_begun before) (option_to_list (started e))

-- ended only after it began: the transaction that ends has not begun
abbrev pub ended_unbegun : {A : Type 0} → List (Kept A) → Event A → List ℕ
ended_unbegun before e = filter (λ t. not (has_begun before t)) (ended e)

-- ended once: the transaction that ends has already ended
abbrev pub ended_again : {A : Type 0} → List (Kept A) → Event A → List ℕ
ended_again before e = filter (has_ended before) (ended e)

-- operates in progress: the transaction of an operation is not in progress
abbrev pub operated_idle : {A : Type 0} → List (Kept A) → Event A → List ℕ
operated_idle before (Operate t object op) = when (not (is_in_progress before t.0)) t.0
operated_idle before _ = []

-- form of the event: a transaction number, the class, the object or the operation is bad, or the two transactions are
-- the same
abbrev pub ill_formed : {A : Type 0} → Parts A → Event A → List ℕ
ill_formed m e =
    let broken = bad_number e ∷ bad_class m e ∷ bad_object m e ∷ bad_operation m e ∷ same_transaction e ∷ [] in
    when (list_any is_some broken) (first_named e)

-- whether the class named may not start by such an event; false for a class that the model lacks
abbrev pub lacks_start : {A : Type 0} → Parts A → Event A → Bool
lacks_start m e =
    option_map_or (λ k. not (can_start (kind_of e) k)) (option_and_then (class_at m) (class_named e)) false

-- whether the class of t may not do such an event; false if t has no class in the model
abbrev pub lacks_kind : {A : Type 0} → Parts A → List (Kept A) → EventKind → ℕ → Bool
lacks_kind m before kind t = has_class (λ k. not (can_do kind k)) m before t

-- whether a form event is not allowed: no class may form edges, or the class of j or of i may not
abbrev pub cannot_form : {A : Type 0} → Parts A → List (Kept A) → Event A → Bool
cannot_form m before (Form kind j i) =
    not (list_any (can_do form_kind) m.classes)
    || (lacks_kind m before form_kind j.0 || lacks_kind m before form_kind i.0)
cannot_form m before _ = false

-- allowed: the class named may not start so, the acting transaction's class may not do the event, or the edge may not
-- be formed
abbrev pub not_allowed : {A : Type 0} → Parts A → List (Kept A) → Event A → List ℕ
not_allowed m before e =
    let lacks_its_kind = option_map_or (lacks_kind m before (kind_of e)) (acting e) false in
    when (lacks_start m e || (lacks_its_kind || cannot_form m before e)) (first_named e)

-- the transactions other than an ending one that must be in progress for the event, each once
abbrev pub party : {A : Type 0} → Event A → List ℕ
party (Spawn t c class) = t.0 ∷ []
party (Split t u class ops) = t.0 ∷ []
party (Join t u) = u.0 ∷ []
party (Delegate t u ops) = if t.0 == u.0 then t.0 ∷ [] else t.0 ∷ u.0 ∷ []
party (Permit t u ob) = if t.0 == u.0 then t.0 ∷ [] else t.0 ∷ u.0 ∷ []
party _ = []

-- parties in progress: a transaction that spawns, splits, delegates or permits, or that is joined, delegated to or
-- permitted, is not in progress
abbrev pub idle_party : {A : Type 0} → List (Kept A) → Event A → List ℕ
idle_party before e = filter (λ t. not (is_in_progress before t)) (party e)

-- the operations that the acting transaction holds in progress
abbrev pub held_numbers : {A : Type 0} → Parts A → List (Kept A) → Event A → List ℕ
held_numbers m before e = option_map_or (λ t. map (λ o. o.number) (access_set m before t)) (acting e) []

-- whether the number is in the list
abbrev pub has_number : List ℕ → ℕ → Bool
has_number ns n = list_any (λ q. q == n) ns

-- responsible: an operation to be transferred is not held in progress by the acting transaction
abbrev pub transferred_unheld : {A : Type 0} → Parts A → List (Kept A) → Event A → List ℕ
transferred_unheld m before e =
    filter (λ o. not (has_number (held_numbers m before e) o)) (numbers_of (operations_named e))

-- whether the event lists operations to transfer, and the acting transaction's class requires it to transfer all
abbrev pub transfers_whole : {A : Type 0} → Parts A → List (Kept A) → Event A → Bool
transfers_whole m before e =
    transfers_over e && option_map_or (has_class (λ k. is_whole k.extent) m before) (acting e) false

-- hands over the whole: an operation is left out although the class requires that all are transferred
abbrev pub kept_back : {A : Type 0} → Parts A → List (Kept A) → Event A → List ℕ
kept_back m before e =
    if transfers_whole m before e
    then filter (λ o. not (is_named (operations_named e) o)) (held_numbers m before e)
    else []

-- conflict: under a policy that refuses, the operation conflicts with operations of its transaction's conflict set
abbrev pub in_conflict : {A : Type 0} → Parts A → List (Kept A) → Event A → List ℕ
in_conflict m before (Operate t object op) =
    if has_class (λ k. refuses k.policy) m before t.0
    then map (λ o. o.number) (conflicting m before t.0 object.0 op)
    else []
in_conflict m before _ = []

-- whether two returns are the same
abbrev pub is_same_ret : Ret → Ret → Bool
is_same_ret Done Done = true
is_same_ret (Value v) (Value w) = int_eq v w
is_same_ret (Flag b) (Flag c) = if b then c else not c
is_same_ret _ _ = false

-- whether there is a return, and it is the one due
abbrev pub is_due : Option Ret → Option Ret → Bool
is_due (Some due) (Some ret) = is_same_ret due ret
is_due _ _ = false

-- return: a well-formed operation does not have the return due, or an event that is no operation has a return
abbrev pub wrong_return : {A : Type 0} → Parts A → List (Kept A) → Option Ret → Event A → List ℕ
wrong_return m before ret (Operate t object op) =
    let is_wrong = not (is_due (return_due m before object.0 op) ret) in
    when (is_well_formed m object.0 op && is_wrong) (number_after before)
wrong_return m before ret _ = when (is_some ret) 0

-- the transaction, if it is not in progress
abbrev pub idle : {A : Type 0} → List (Kept A) → ℕ → List ℕ
idle before t = when (not (is_in_progress before t)) t

-- heir: a transaction that commits to its parent has no parent (number 0), or its parent is not in progress
abbrev pub without_heir : {A : Type 0} → Parts A → List (Kept A) → Event A → List ℕ
without_heir m before (Commit t) =
    if has_class (λ k. has_heir k.at_commit) m before t.0
    then option_map_or (λ u. idle before u.0) (parent_of before t.0) (0 ∷ [])
    else []
without_heir m before _ = []

-- formed in time: a form event forms an edge of a begin kind after j has begun, or of another kind after j or i has
-- ended
abbrev pub not_in_time : {A : Type 0} → List (Kept A) → Event A → List ℕ
not_in_time before (Form kind j i) =
    if is_begin_kind kind
    then when (has_begun before j.0) j.0
    else option_to_list (smallest (filter (has_ended before) (j.0 ∷ i.0 ∷ [])))
not_in_time before _ = []

-- the numbers by which an event breaks each axiom, in the order of the axioms
unfoldable pub breaches : {A : Type 0} →
    Parts A → List (Kept A) → Option Ret → Event A → List (Axiom × List ℕ)
breaches m before ret e =
    (BegunOnce, begun_again before e)
    ∷ (EndedAfterBegun, ended_unbegun before e)
    ∷ (EndedOnce, ended_again before e)
    ∷ (OperatesInProgress, operated_idle before e)
    ∷ (FormOfEvent, ill_formed m e)
    ∷ (Allowed, not_allowed m before e)
    ∷ (PartiesInProgress, idle_party before e)
    ∷ (Responsible, transferred_unheld m before e)
    ∷ (HandsWhole, kept_back m before e)
    ∷ (Conflict, in_conflict m before e)
    ∷ (Return, wrong_return m before ret e)
    ∷ (Heir, without_heir m before e)
    ∷ (FormedInTime, not_in_time before e)
    ∷ []

-- the faults of an axiom at a place
abbrev pub faults_of : Axiom → ℕ → List ℕ → List Fault
faults_of broken place bys = map (λ by. record { broken = broken; place = place; by = by }) bys

-- the faults at a place
abbrev pub faults_at : {A : Type 0} → Parts A → Place A → List Fault
faults_at m p =
    flat_map (λ b. faults_of b.0 (number p) b.1) (breaches m p.before p.kept.ret p.kept.event)

-- the faults of a history, place by place
abbrev pub faults_in_places : {A : Type 0} → Parts A → List (Kept A) → List Fault
faults_in_places m h = flat_map (faults_at m) (places h)
