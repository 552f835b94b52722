-- Examples: the lines of some ends, and which conditions hold of them.
use Rattle.std.specs.Prelude.{◌≡◌, ℕ, ◌<◌, ◌^◌, Bool, List, [], ◌∷◌, codes, length, map, Option, Some, None, true, false, pos, negsuc, refl}
use Rattle.std.proofs.Common.{arith}
use Rattle.std.specs.declared.vec.Vec.{Vec}
use denote.RawPtr.{null_ptr}
use Rattle.std.specs.Fmt.{digits}
use Rattle.acta_table.specs.declared.answer.Rule.TheVariants.{Conflict, CommitOrder}
use Rattle.acta_table.specs.declared.answer.Status.{Status}
use Rattle.acta_table.specs.declared.answer.Status.TheVariants.{InProgress, Committed, Aborted, Joined}
use Rattle.acta_table.specs.declared.dep.Dep.TheVariants.{Scd, Ad}
use Rattle.acta_table.specs.declared.event.Event.{Event}
use Rattle.acta_table.specs.declared.event.Event.TheVariants as event
use Rattle.acta_table.specs.declared.event.ObjId.{ObjId}
use Rattle.acta_table.specs.declared.event.Op.{Op}
use Rattle.acta_table.specs.declared.event.Op.TheVariants.{Add, Get, Write}
use Rattle.acta_table.specs.declared.event.Ret.{Ret}
use Rattle.acta_table.specs.declared.event.Ret.TheVariants as ret
use Rattle.acta_table.specs.declared.event.TxnId.{TxnId}
use Rattle.acta_table.specs.declared.model.Kind.{Kind}
use Rattle.acta_table.specs.declared.model.Kind.TheVariants as kind
use Rattle.acta_table.specs.declared.model.Object.{Object}
use Rattle.acta_table.specs.declared.model.Parts.{Parts}
use Rattle.acta_objects.specs.declared.state.ObjectState.TheVariants.{Register, Counter, Elements}
use Rattle.acta_script.specs.declared.programs.ProgramLine.{ProgramLine}
use Rattle.acta_explore.specs.declared.outcome.TxnStatus.{TxnStatus}
use Rattle.acta_explore.specs.declared.point.Done.{Done}
use Rattle.acta_explore.specs.declared.point.Step.{Step}
use Rattle.acta_explore.specs.Outcomes.{Outcome}
use Rattle.acta_explore.specs.Programs.{Programs}
use Rattle.acta_words.specs.Text.{line_of}
use Rattle.acta_ends.specs.declared.condition.Condition.{Condition}
use Rattle.acta_ends.specs.declared.condition.Term.{Term}
use Rattle.acta_ends.specs.declared.condition.Test.{Test}
use Rattle.acta_ends.specs.declared.condition.Test.TheVariants as test
use Rattle.acta_ends.specs.ConditionWords.{condition_words}
use Rattle.acta_ends.specs.Conditions.{holds, test_holds}
use Rattle.acta_ends.specs.EndLines.{end_lines, explored_lines}

abbrev ob : List ℕ → Kind → Object (Unit {0})
ob name kind = record { name = name; kind = kind }

-- a register, two counters and a set
abbrev model : Parts (Unit {0})
model = record {
  objects = ob (codes "x") (kind.Register (pos 0)) ∷ ob (codes "n") (kind.Counter (pos 0)) ∷ ob (codes "m") (kind.Counter (pos 0)) ∷ ob (codes "s") kind.Elements ∷ [];
  classes = [];
}

abbrev t : ℕ → TxnId
t n = record { 0 = n }

abbrev begins : ℕ → Event (Unit {0})
begins n = event.Begin (t n) (record { 0 = 0 })

abbrev does : ℕ → ℕ → Op → Event (Unit {0})
does n object op = event.Operate (t n) (record { 0 = object }) op

abbrev line : ℕ → Event (Unit {0}) → ProgramLine (Unit {0})
line seat e = record { seat = seat; alternatives = e ∷ [] }

-- two transactions that read and write crosswise; the first commits or aborts
abbrev programs : Programs (Unit {0})
programs =
    line 1 (begins 1)
    ∷ line 1 (does 1 0 (Write (pos 1)))
    ∷ line 1 (does 1 1 (Add (pos 1)))
    ∷ (record { seat = 1; alternatives = event.Commit (t 1) ∷ event.Abort (t 1) ∷ [] })
    ∷ line 2 (begins 2)
    ∷ line 2 (does 2 1 Get)
    ∷ line 2 (does 2 0 (Write (pos 2)))
    ∷ line 2 (event.Commit (t 2))
    ∷ []

-- the first line of the input is a comment
abbrev numbers : List ℕ
numbers = 2 ∷ 3 ∷ 4 ∷ 5 ∷ 6 ∷ 7 ∷ 8 ∷ 9 ∷ []

abbrev did : ℕ → Option Ret → Option Done
did alternative ret = Some (record { alternative = alternative; ret = ret })

abbrev step : ℕ → ℕ → ℕ → Option Ret → Step
step seat line alternative ret = record { seat = seat; line = line; alternative = alternative; ret = ret }

abbrev status : ℕ → Status → TxnStatus
status n s = record { txn = t n; status = s }

-- each has done its first operation, and waits for the other
abbrev crossed : Outcome (Unit {0})
crossed = record {
  lines = did 0 None ∷ did 0 (Some ret.Done) ∷ None ∷ None ∷ did 0 None ∷ did 0 (Some (ret.Value (pos 0))) ∷ None ∷ None ∷ [];
  waiting = (record { seat = 1; line = 2; rules = Conflict ∷ [] }) ∷ (record { seat = 2; line = 6; rules = Conflict ∷ [] }) ∷ [];
  statuses = status 1 InProgress ∷ status 2 InProgress ∷ [];
  values = Some (Register (pos 1)) ∷ Some (Counter (pos 0)) ∷ Some (Counter (pos 0)) ∷ Some (Elements []) ∷ [];
  debts = [];
}

crossed_lines : end_lines model programs numbers 1 crossed (step 1 0 0 None ∷ step 1 1 0 (Some ret.Done) ∷ step 2 4 0 None ∷ step 2 5 0 (Some (ret.Value (pos 0))) ∷ [])
    ≡ codes "end 1 stuck"
    ∷ codes "wait 1 4 14"
    ∷ codes "wait 2 8 14"
    ∷ codes "status 1 inprogress"
    ∷ codes "status 2 inprogress"
    ∷ codes "value x 1"
    ∷ codes "value n 0"
    ∷ codes "value m 0"
    ∷ codes "value s {}"
    ∷ codes "return 3 done"
    ∷ codes "return 7 0"
    ∷ codes "order 2 3 6 7"
    ∷ []
unfolding digits
crossed_lines = refl

-- all is done, by the second alternative
abbrev one_aborted : Outcome (Unit {0})
one_aborted = record {
  lines = did 0 None ∷ did 0 (Some ret.Done) ∷ did 0 (Some ret.Done) ∷ did 1 None ∷ did 0 None ∷ did 0 (Some (ret.Flag false)) ∷ did 0 (Some ret.Done) ∷ did 0 None ∷ [];
  waiting = [];
  statuses = status 1 Aborted ∷ status 2 Committed ∷ [];
  values = Some (Register (negsuc 9)) ∷ Some (Counter (negsuc 0)) ∷ None ∷ Some (Elements (pos 1 ∷ pos 4 ∷ [])) ∷ [];
  debts = [];
}

one_aborted_lines : end_lines model programs numbers 12 one_aborted (step 1 0 0 None ∷ step 1 3 1 None ∷ step 2 4 0 None ∷ [])
    ≡ codes "end 12 complete"
    ∷ codes "status 1 aborted"
    ∷ codes "status 2 committed"
    ∷ codes "value x -10"
    ∷ codes "value n -1"
    ∷ codes "value s {1,4}"
    ∷ codes "chose 5 2"
    ∷ codes "return 3 done"
    ∷ codes "return 4 done"
    ∷ codes "return 7 no"
    ∷ codes "return 8 done"
    ∷ codes "order 2 5.2 6"
    ∷ []
unfolding digits
one_aborted_lines = refl

-- nothing happened, a seat waits with two alternatives, and something is owed
abbrev owing : Outcome (Unit {0})
owing = record {
  lines = None ∷ None ∷ None ∷ None ∷ [];
  waiting = (record { seat = 1; line = 3; rules = CommitOrder ∷ Conflict ∷ [] }) ∷ [];
  statuses = status 3 Joined ∷ [];
  values = [];
  debts = (record { kind = Scd; txn = t 2; on = t 1 }) ∷ (record { kind = Ad; txn = t 1; on = t 3 }) ∷ [];
}

owing_lines : end_lines model programs numbers 3 owing []
    ≡ codes "end 3 stuck owing"
    ∷ codes "wait 1 5 24 14"
    ∷ codes "status 3 joined"
    ∷ codes "owed SCD 2 1 commit"
    ∷ codes "owed AD 1 3 abort"
    ∷ codes "order"
    ∷ []
unfolding digits
owing_lines = refl

abbrev vec : {X : Type 0} (xs : List X) → length xs < 2 ^ 63 → Vec X (Unit {0})
vec xs few = record { ptr = null_ptr; len = length xs; cap = length xs; alloc = tt; items = xs; ok = (refl, omega arith); small = few }

abbrev object : ℕ → ObjId
object n = record { 0 = n }

abbrev is_so : Test (Unit {0}) → Term (Unit {0})
is_so asked = record { is_negated = false; test = asked }

abbrev is_not_so : Test (Unit {0}) → Term (Unit {0})
is_not_so asked = record { is_negated = true; test = asked }

abbrev is_1_and_4 : Test (Unit {0})
is_1_and_4 = test.Elements (object 3) (vec (pos 1 ∷ pos 4 ∷ []) (omega arith))

abbrev no_condition : Condition (Unit {0})
no_condition = record { terms = vec [] (omega arith) }

no_ends : explored_lines model programs numbers no_condition [] ≡ codes "ends 0" ∷ []
unfolding explored_lines digits
no_ends = refl

-- which of the three ends are complete, stuck and owing
abbrev of_all : Test (Unit {0}) → List Bool
of_all asked = map (λ o. test_holds o asked) (crossed ∷ one_aborted ∷ owing ∷ [])

complete : of_all test.Complete ≡ false ∷ true ∷ false ∷ []
complete = refl

stuck : of_all test.Stuck ≡ true ∷ false ∷ true ∷ []
stuck = refl

only_owing : of_all test.Owing ≡ false ∷ false ∷ true ∷ []
only_owing = refl

-- where transaction 1 has aborted, and where it is in progress; transaction 3 has begun in one alone
aborted : of_all (test.Status (t 1) Aborted) ≡ false ∷ true ∷ false ∷ []
aborted = refl

in_progress : of_all (test.Status (t 1) InProgress) ≡ true ∷ false ∷ false ∷ []
in_progress = refl

joined : of_all (test.Status (t 3) Joined) ≡ false ∷ false ∷ true ∷ []
joined = refl

-- a register, a counter, an object without a value, one that is not there, and a set
register : of_all (test.Number (object 0) (negsuc 9)) ≡ false ∷ true ∷ false ∷ []
register = refl

counter : of_all (test.Number (object 1) (pos 0)) ≡ true ∷ false ∷ false ∷ []
counter = refl

no_value : of_all (test.Number (object 2) (pos 0)) ≡ true ∷ false ∷ false ∷ []
no_value = refl

no_object : of_all (test.Number (object 9) (pos 0)) ≡ false ∷ false ∷ false ∷ []
no_object = refl

no_number : of_all (test.Number (object 3) (pos 0)) ≡ false ∷ false ∷ false ∷ []
no_number = refl

elements : of_all is_1_and_4 ≡ false ∷ true ∷ false ∷ []
elements = refl

no_elements : of_all (test.Elements (object 3) (vec [] (omega arith))) ≡ true ∷ false ∷ false ∷ []
no_elements = refl

-- a line that was not done in the first end, one that did no operation, and one that returned 0 and then no
returned : of_all (test.Returned 6 ret.Done) ≡ false ∷ true ∷ false ∷ []
returned = refl

no_operation : of_all (test.Returned 0 ret.Done) ≡ false ∷ false ∷ false ∷ []
no_operation = refl

returned_zero : of_all (test.Returned 5 (ret.Value (pos 0))) ≡ true ∷ false ∷ false ∷ []
returned_zero = refl

returned_no : of_all (test.Returned 5 (ret.Flag false)) ≡ false ∷ true ∷ false ∷ []
returned_no = refl

-- all tests must hold, and a test after `not` must fail
abbrev terms : List (Term (Unit {0}))
terms = is_so (test.Status (t 1) Aborted) ∷ is_not_so test.Stuck ∷ is_so (test.Number (object 0) (negsuc 9)) ∷ is_so is_1_and_4 ∷ is_not_so (test.Returned 5 ret.Done) ∷ []

abbrev condition : Condition (Unit {0})
condition = record { terms = vec terms (omega arith) }

all_hold : map (holds condition) (crossed ∷ one_aborted ∷ owing ∷ []) ≡ false ∷ true ∷ false ∷ []
all_hold = refl

none_fails : map (holds no_condition) (crossed ∷ one_aborted ∷ owing ∷ []) ≡ true ∷ true ∷ true ∷ []
none_fails = refl

condition_line : line_of (condition_words model numbers terms) ≡ codes "1 aborted and not stuck and x = -10 and s = {1,4} and not 7 = done"
unfolding digits
condition_line = refl

no_condition_line : line_of (condition_words model numbers []) ≡ []
no_condition_line = refl
