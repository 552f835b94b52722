-- Examples: debuggers on a history in which a debt is settled, and lists that are not histories.
use Rattle.std.specs.Prelude.{ℕ, ◌≡◌, refl, pos, true, false, codes, List, [], ◌∷◌, map, Option, Some, None, Ok, Err}
use Rattle.std.proofs.Common.{ap, arith}
use Rattle.acta_table.specs.declared.dep.Dep.TheVariants.{Scd}
use Rattle.acta_table.specs.declared.event.Event.{Event}
use Rattle.acta_table.specs.declared.event.Event.TheVariants.{Begin, Form, Operate, Commit}
use Rattle.acta_table.specs.declared.event.EventKind.TheVariants.{Operate as operate_kind}
use Rattle.acta_table.specs.declared.event.Kept.{Kept}
use Rattle.acta_table.specs.declared.event.Op.{Op}
use Rattle.acta_table.specs.declared.event.Op.TheVariants.{Get, Add}
use Rattle.acta_table.specs.declared.event.Ret.{Ret}
use Rattle.acta_table.specs.declared.event.Ret.TheVariants.{Done, Value}
use Rattle.acta_table.specs.declared.model.AtCommit.TheVariants.{Keeps}
use Rattle.acta_table.specs.declared.model.Extent.TheVariants.{Whole}
use Rattle.acta_table.specs.declared.model.Kind.TheVariants.{Counter as a_counter}
use Rattle.acta_table.specs.declared.model.Parts.{Parts}
use Rattle.acta_table.specs.declared.model.Scope.TheVariants.{Others}
use Rattle.acta_table.specs.declared.policy.Policy.TheVariants.{Refuse}
use Rattle.acta_table.specs.WellFormed.{bad_number, bad_class, bad_object, same_transaction}
use Rattle.acta_objects.specs.WellFormed.{bad_operation}
use Rattle.acta_objects.specs.declared.state.ObjectState.TheVariants.{Counter}
use Rattle.acta_deps.specs.Dependencies.{begin_dep, serial_dep, begin_on_commit, begin_on_abort, termination_dep, owing_abort, owing_commit, commit_order, weak_begin, unpayable_commit, unpayable_abort, clash, start_refusal, commit_refusal, abort_refusal, join_refusal}
use Rattle.acta_machine.specs.Changes.{summary_of}
use Rattle.acta_machine.specs.Summary.{stood, entered, linked, operated, fated, counted, terminated}
use Rattle.acta_machine.specs.Rules.{full, not_in_progress, already_begun, not_in_model, partner_not_in_progress, not_responsible, partial_delegation, bad_set, conflict, form_too_late, edges_full, no_heir}
use Rattle.acta_machine.specs.Table.{State, after, value_in}
use Rattle.acta_debug.specs.declared.breaks.Break.TheVariants.{Kind, Touches, Object, OwedAtLeast, Ended}
use Rattle.acta_debug.specs.declared.breaks.Stop.TheVariants.{Broke, Finished}
use Rattle.acta_debug.specs.declared.errors.MoveError.TheVariants.{AtEnd, AtStart, OutOfRange}
use Rattle.acta_debug.specs.Histories.{IsFirstOther, IsHistory, state_at}
use Rattle.acta_debug.specs.Moves.{gone_to, stepped, stepped_back, with_break, without_breaks}
use Rattle.acta_debug.specs.Sessions.{Session, moved_to, opened}
use Rattle.acta_debug.specs.Stops.{stop_of}

-- a counter, and transactions that form edges, operate, commit and abort
abbrev model : Parts (Unit {0})
model = record {
  objects = (record { name = codes "n"; kind = a_counter (pos 0) }) ∷ [];
  classes = (record { name = codes "try"; starts = record { begin = true; spawned = false; split = false }; may = 240; scope = Others; policy = Refuse; at_commit = Keeps; extent = Whole; spawn_edges = []; split_edges = [] }) ∷ [];
}

abbrev plain : Event (Unit {0}) → Kept (Unit {0})
plain e = record { event = e; ret = None }

abbrev begin : ℕ → Kept (Unit {0})
begin t = plain (Begin (record { 0 = t }) (record { 0 = 0 }))

abbrev commit : ℕ → Kept (Unit {0})
commit t = plain (Commit (record { 0 = t }))

abbrev operate : ℕ → Op → Ret → Kept (Unit {0})
operate t op ret = record { event = Operate (record { 0 = t }) (record { 0 = 0 }) op; ret = Some ret }

-- after place 4 transaction 2 owes a commit, and does it at place 5; 3 adds twice
abbrev paid : List (Kept (Unit {0}))
paid =
    plain (Form Scd (record { 0 = 2 }) (record { 0 = 1 })) ∷ begin 1 ∷ begin 2 ∷ commit 1 ∷ commit 2 ∷ begin 3
    ∷ operate 3 (Add (pos 1)) Done ∷ operate 3 (Add (pos 1)) Done ∷ []

-- a commit before the begin, and a wrong return
abbrev committed_first : List (Kept (Unit {0}))
committed_first = commit 1 ∷ begin 1 ∷ []

abbrev misread : List (Kept (Unit {0}))
misread = begin 1 ∷ operate 1 Get (Value (pos 9)) ∷ []

other_length : (s t : State (Unit {0})) (k : Kept (Unit {0})) → s.kept ≡ [] → t.kept ≡ k ∷ [] → s ≡ t → ⊥
other_length s t k none one same = let kept = ap (λ (x : State (Unit {0})). x.kept) same in cc

commit_is_other : IsFirstOther model committed_first 1
unfolding after summary_of full bad_number bad_class bad_object bad_operation same_transaction not_in_progress already_begun terminated
commit_is_other = record {
  within = omega arith;
  before = refl;
  other = λ same. other_length _ _ (commit 1) refl refl same;
}

-- what the second item returned, as a number
abbrev second_return : List (Kept (Unit {0})) → Option Ret
second_return (k ∷ l ∷ ks) = l.ret
second_return _ = None

abbrev number_read : Option Ret → ℕ
number_read (Some (Value (pos n))) = n
number_read _ = 0

misread_is_other : IsFirstOther model misread 2
unfolding after summary_of full bad_number bad_class bad_object bad_operation same_transaction not_in_progress already_begun not_in_model partner_not_in_progress not_responsible partial_delegation bad_set conflict form_too_late edges_full no_heir begin_dep serial_dep begin_on_commit begin_on_abort termination_dep owing_abort owing_commit commit_order weak_begin unpayable_commit unpayable_abort clash start_refusal commit_refusal abort_refusal join_refusal stood entered linked operated fated counted terminated
misread_is_other = record {
  within = omega arith;
  before = refl;
  other = λ same. let value : ◌≡◌ {A = ℕ} 0 9 = ap (λ (x : State (Unit {0})). number_read (second_return x.kept)) same in absurd (omega (arith, value));
}

-- histories, and values along the way
histories : IsHistory model paid × (map (λ n. value_in (state_at model paid n) 0) (0 ∷ 6 ∷ 7 ∷ 8 ∷ []) ≡ Some (Counter (pos 0)) ∷ Some (Counter (pos 0)) ∷ Some (Counter (pos 1)) ∷ Some (Counter (pos 2)) ∷ [])
unfolding after summary_of full bad_number bad_class bad_object bad_operation same_transaction not_in_progress already_begun not_in_model partner_not_in_progress not_responsible partial_delegation bad_set conflict form_too_late edges_full no_heir begin_dep serial_dep begin_on_commit begin_on_abort termination_dep owing_abort owing_commit commit_order weak_begin unpayable_commit unpayable_abort clash start_refusal commit_refusal abort_refusal join_refusal stood entered linked operated fated counted terminated
histories = (refl, refl)

abbrev start : Session (Unit {0})
start = opened model paid

ends : map (λ n. stepped (moved_to start n)) (0 ∷ 7 ∷ 8 ∷ []) ≡ Ok (moved_to start 1) ∷ Ok (moved_to start 8) ∷ Err AtEnd ∷ []
ends = refl

goes_back : map (λ n. stepped_back (moved_to start n)) (0 ∷ 8 ∷ []) ≡ Err AtStart ∷ Ok (moved_to start 7) ∷ []
goes_back = refl

goes : map (gone_to start) (4 ∷ 8 ∷ 9 ∷ []) ≡ Ok (moved_to start 4) ∷ Ok (moved_to start 8) ∷ Err OutOfRange ∷ []
goes = refl

-- a run to where an event is owed, and on to the end
owed_at : map (λ n. stop_of (moved_to (with_break start (OwedAtLeast 1)) n)) (0 ∷ 3 ∷ 4 ∷ 8 ∷ []) ≡ Broke 1 4 ∷ Broke 1 4 ∷ Finished ∷ Finished ∷ []
unfolding after summary_of full bad_number bad_class bad_object bad_operation same_transaction not_in_progress already_begun not_in_model partner_not_in_progress not_responsible partial_delegation bad_set conflict form_too_late edges_full no_heir begin_dep serial_dep begin_on_commit begin_on_abort termination_dep owing_abort owing_commit commit_order weak_begin unpayable_commit unpayable_abort clash start_refusal commit_refusal abort_refusal join_refusal stood entered linked operated fated counted terminated
owed_at = refl

-- a run with four breaks, of which the lowest number is reported, and with none
abbrev tracing : Session (Unit {0})
tracing =
    with_break (with_break (with_break (with_break start (Object (record { 0 = 0 }))) (Ended (record { 0 = 2 }))) (Touches (record { 0 = 2 }))) (Kind operate_kind)

traced : map (λ n. stop_of (moved_to tracing n)) (0 ∷ 1 ∷ 3 ∷ 5 ∷ 7 ∷ 8 ∷ []) ≡ Broke 3 1 ∷ Broke 3 3 ∷ Broke 2 5 ∷ Broke 1 7 ∷ Broke 1 8 ∷ Finished ∷ []
traced = refl

unbroken : stop_of (without_breaks tracing) ≡ Finished
unbroken = refl
