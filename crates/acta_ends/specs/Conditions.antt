-- Conditions on how programs ended.
use Rattle.std.specs.Prelude.{ℕ, Bool, true, false, not, ◌&&◌, ◌==◌, List, ℤ, length, filter, slice_get, if◌then◌else◌, Option, option_and_then}
use Rattle.std.specs.Cmp.Lexicographic.{pointwise}
use Rattle.std.specs.List.{list_all, list_any, range_with_len}
use Rattle.std.specs.Option.{option_map_or}
use Rattle.std.specs.Ordering.{int_eq}
use Rattle.acta_table.specs.declared.answer.Status.{Status}
use Rattle.acta_table.specs.declared.answer.Status.TheVariants.{NotBegun, InProgress, Committed, Aborted, Joined}
use Rattle.acta_table.specs.declared.event.ObjId.{ObjId}
use Rattle.acta_table.specs.declared.event.Ret.{Ret}
use Rattle.acta_table.specs.declared.event.Ret.TheVariants.{Done, Value, Flag}
use Rattle.acta_table.specs.declared.event.TxnId.{TxnId}
use Rattle.acta_objects.specs.declared.state.ObjectState.{ObjectState}
use Rattle.acta_objects.specs.declared.state.ObjectState.TheVariants.{Register, Counter, Elements}
use Rattle.acta_explore.specs.declared.outcome.TxnStatus.{TxnStatus}
use Rattle.acta_explore.specs.Ends.{Found}
use Rattle.acta_explore.specs.Outcomes.{Outcome}
use Rattle.acta_ends.specs.declared.condition.Condition.{Condition}
use Rattle.acta_ends.specs.declared.condition.Term.{Term}
use Rattle.acta_ends.specs.declared.condition.Test.{Test}
use Rattle.acta_ends.specs.declared.condition.Test.TheVariants as test

-- whether the two statuses are the same
abbrev pub is_same_status : Status → Status → Bool
is_same_status NotBegun NotBegun = true
is_same_status InProgress InProgress = true
is_same_status Committed Committed = true
is_same_status Aborted Aborted = true
is_same_status Joined Joined = true
is_same_status _ _ = false

-- whether the two returns are the same
abbrev pub is_same_return : Ret → Ret → Bool
is_same_return Done Done = true
is_same_return (Value v) (Value w) = int_eq v w
is_same_return (Flag true) (Flag true) = true
is_same_return (Flag false) (Flag false) = true
is_same_return _ _ = false

-- whether it is this transaction, with this status
abbrev pub is_status : TxnId → Status → TxnStatus → Bool
is_status t status s = (s.txn.0 == t.0) && is_same_status s.status status

-- whether the value of a register or a counter is this number
abbrev pub has_number : {A : Type 0} → ℤ → ObjectState A → Bool
has_number n (Register v) = int_eq v n
has_number n (Counter v) = int_eq v n
has_number n (Elements es) = false

-- whether a set has exactly these elements, ascending
abbrev pub has_elements : {A : Type 0} → List ℤ → ObjectState A → Bool
has_elements xs (Register v) = false
has_elements xs (Counter v) = false
has_elements xs (Elements es) = pointwise int_eq es xs

-- the value of the object, if it has one
abbrev pub value_at : {A : Type 0} → Outcome A → ObjId → Option (ObjectState A)
value_at o ob = option_and_then (λ v. v) (slice_get o.values ob.0)

-- the return of the line at position l, if it did an operation
abbrev pub return_at : {A : Type 0} → Outcome A → ℕ → Option Ret
return_at o l = option_and_then (λ done. option_and_then (λ d. d.ret) done) (slice_get o.lines l)

-- whether the test holds of the outcome
abbrev pub test_holds : {A : Type 0} → Outcome A → Test A → Bool
test_holds o test.Complete = (length o.waiting == 0) && (length o.debts == 0)
test_holds o test.Stuck = not (length o.waiting == 0)
test_holds o test.Owing = not (length o.debts == 0)
test_holds o (test.Status t status) = list_any (is_status t status) o.statuses
test_holds o (test.Number ob n) = option_map_or (has_number n) (value_at o ob) false
test_holds o (test.Elements ob xs) = option_map_or (has_elements xs.items) (value_at o ob) false
test_holds o (test.Returned l ret) = option_map_or (is_same_return ret) (return_at o l) false

-- the same for a term: the test must fail after `not`
abbrev pub term_holds : {A : Type 0} → Outcome A → Term A → Bool
term_holds o t = if t.is_negated then not (test_holds o t.test) else test_holds o t.test

-- whether each test of the condition holds of the outcome
abbrev pub holds : {A : Type 0} → Condition A → Outcome A → Bool
holds c o = list_all (term_holds o) c.terms.items

-- whether there is an outcome at this place, and the condition holds of it
abbrev pub holds_at : {A : Type 0} → Condition A → List (Outcome A) → ℕ → Bool
holds_at c outcomes place = option_map_or (holds c) (slice_get outcomes place) false

-- the places, from 0, of the ends for which the condition holds
abbrev pub kept_places : {A : Type 0} → Condition A → Found A → List ℕ
kept_places c found = filter (holds_at c found.outcomes) (range_with_len 0 (length found.ends))
