-- Examples of the axioms on places: for each a history that breaks only this axiom, and a similar one that satisfies it.
use Rattle.std.specs.Prelude.{true, Some, pos, [], ◌∷◌, ◌≡◌, refl}
use Rattle.acta_table.specs.declared.dep.Dep.TheVariants.{Cd, Bd}
use Rattle.acta_table.specs.declared.event.Op.TheVariants.{Read, Write, Get, Add, Insert}
use Rattle.acta_table.specs.declared.event.Ret.TheVariants.{Done, Value, Flag}
use Rattle.acta_table.specs.declared.limits.TheConstants.{LAST_TXN, TABLE_SIZE}
use Rattle.acta_table.specs.WellFormed.{bad_number, bad_class, bad_object, same_transaction}
use Rattle.acta_objects.specs.WellFormed.{bad_operation}
use Rattle.acta_axioms.specs.declared.fault.Axiom.TheVariants.{BegunOnce, EndedAfterBegun, EndedOnce, OperatesInProgress, FormOfEvent, Allowed, PartiesInProgress, Responsible, HandsWhole, Conflict, Return, Heir, FormedInTime}
use Rattle.acta_axioms.specs.Axioms.{axiom_number}
use Rattle.acta_axioms.specs.Faults.{breaches}
use Rattle.acta_axioms.specs.Formulas.{is_false}
use Rattle.acta_axioms.specs.Legal.{owed}
use Rattle.acta_axioms.specs.Permits.{is_permitted}
use Rattle.acta_axioms.proofs.Histories.{begin, spawn, split, join, delegate, form, operate, commit, abort, fault, plain, model, edgeless, parting, nesting, loose, permit, granting}
use Rattle.acta_judge.specs.Verdicts.{all_faults, verdict}
use Rattle.acta_judge.proofs.Histories.{found, faultless, untied}

-- begun once: a transaction begins again
begun_twice : verdict model (begin 2 0 ∷ begin 3 0 ∷ begin 2 0 ∷ []) ≡ found (fault BegunOnce 3 2 ∷ [])
unfolding verdict all_faults owed breaches bad_number bad_class bad_object bad_operation same_transaction
begun_twice = refl

-- an ended transaction begins again
begun_again_after_its_end : verdict model (begin 2 0 ∷ abort 2 ∷ begin 2 0 ∷ []) ≡ found (fault BegunOnce 3 2 ∷ [])
unfolding verdict all_faults owed breaches bad_number bad_class bad_object bad_operation same_transaction
begun_again_after_its_end = refl

-- a begun transaction is spawned
spawned_again : verdict untied (begin 6 0 ∷ begin 7 0 ∷ spawn 6 7 1 ∷ []) ≡ found (fault BegunOnce 3 7 ∷ [])
unfolding verdict all_faults owed breaches bad_number bad_class bad_object bad_operation same_transaction
spawned_again = refl

-- three begin
each_begins_once : verdict model (begin 2 0 ∷ begin 3 0 ∷ begin 4 0 ∷ []) ≡ faultless
unfolding verdict all_faults owed breaches bad_number bad_class bad_object bad_operation same_transaction
each_begins_once = refl

-- ended after it began: a transaction commits that never began
ended_before_it_began : verdict model (begin 6 0 ∷ commit 7 ∷ []) ≡ found (fault EndedAfterBegun 2 7 ∷ [])
unfolding verdict all_faults owed breaches bad_number bad_class bad_object bad_operation same_transaction
ended_before_it_began = refl

-- a transaction aborts that begins later
aborted_before_it_began : verdict model (begin 6 0 ∷ abort 7 ∷ begin 7 0 ∷ [])
    ≡ found (fault EndedAfterBegun 2 7 ∷ [])
unfolding verdict all_faults owed breaches bad_number bad_class bad_object bad_operation same_transaction
aborted_before_it_began = refl

-- a transaction joins another, and never began itself
joined_before_it_began : verdict parting (begin 6 0 ∷ join 7 6 ∷ []) ≡ found (fault EndedAfterBegun 2 7 ∷ [])
unfolding verdict all_faults owed breaches bad_number bad_class bad_object bad_operation same_transaction
joined_before_it_began = refl

-- a begun transaction commits
ended_where_it_began : verdict model (begin 7 0 ∷ commit 7 ∷ []) ≡ faultless
unfolding verdict all_faults owed breaches bad_number bad_class bad_object bad_operation same_transaction
ended_where_it_began = refl

-- ended once: a committed transaction aborts
ended_twice : verdict model (begin 7 0 ∷ commit 7 ∷ abort 7 ∷ []) ≡ found (fault EndedOnce 3 7 ∷ [])
unfolding verdict all_faults owed breaches bad_number bad_class bad_object bad_operation same_transaction
ended_twice = refl

-- a transaction commits that has joined another
ended_after_a_join : verdict parting (begin 6 0 ∷ begin 7 0 ∷ join 7 6 ∷ commit 7 ∷ [])
    ≡ found (fault EndedOnce 4 7 ∷ [])
unfolding verdict all_faults owed breaches bad_number bad_class bad_object bad_operation same_transaction
ended_after_a_join = refl

-- a transaction commits, and another aborts
each_ends_once : verdict model (begin 6 0 ∷ begin 7 0 ∷ commit 7 ∷ abort 6 ∷ []) ≡ faultless
unfolding verdict all_faults owed breaches bad_number bad_class bad_object bad_operation same_transaction
each_ends_once = refl

-- operates in progress: a committed transaction reads
operated_after_its_end : verdict model (begin 7 0 ∷ commit 7 ∷ operate 7 0 Read (Value (pos 0)) ∷ [])
    ≡ found (fault OperatesInProgress 3 7 ∷ [])
unfolding verdict all_faults owed breaches bad_number bad_class bad_object bad_operation same_transaction
operated_after_its_end = refl

-- a transaction reads that begins later
operated_before_its_start : verdict model (begin 6 0 ∷ operate 7 0 Read (Value (pos 0)) ∷ begin 7 0 ∷ [])
    ≡ found (fault OperatesInProgress 2 7 ∷ [])
unfolding verdict all_faults owed breaches bad_number bad_class bad_object bad_operation same_transaction
operated_before_its_start = refl

-- a transaction reads before it commits
operated_in_progress : verdict model (begin 7 0 ∷ operate 7 0 Read (Value (pos 0)) ∷ commit 7 ∷ []) ≡ faultless
unfolding verdict all_faults owed breaches bad_number bad_class bad_object bad_operation same_transaction
operated_in_progress = refl

-- form of the event: a number that no transaction has
numbered_too_high : verdict model (begin 6 0 ∷ begin TABLE_SIZE 0 ∷ []) ≡ found (fault FormOfEvent 2 TABLE_SIZE ∷ [])
unfolding verdict all_faults owed breaches bad_number bad_class bad_object bad_operation same_transaction
numbered_too_high = refl

-- and the number 0
numbered_zero : verdict model (begin 6 0 ∷ begin 0 0 ∷ []) ≡ found (fault FormOfEvent 2 0 ∷ [])
unfolding verdict all_faults owed breaches bad_number bad_class bad_object bad_operation same_transaction
numbered_zero = refl

-- a class that the model lacks
of_no_class : verdict model (begin 6 0 ∷ begin 7 6 ∷ []) ≡ found (fault FormOfEvent 2 7 ∷ [])
unfolding verdict all_faults owed breaches bad_number bad_class bad_object bad_operation same_transaction
of_no_class = refl

-- an object that the model lacks: the return is not checked
on_no_object : verdict model (begin 7 0 ∷ operate 7 3 Read Done ∷ []) ≡ found (fault FormOfEvent 2 7 ∷ [])
unfolding verdict all_faults owed breaches bad_number bad_class bad_object bad_operation same_transaction
on_no_object = refl

-- an operation that is not of the object's kind
of_no_kind : verdict model (begin 7 0 ∷ operate 7 2 (Add (pos 5)) Done ∷ []) ≡ found (fault FormOfEvent 2 7 ∷ [])
unfolding verdict all_faults owed breaches bad_number bad_class bad_object bad_operation same_transaction
of_no_kind = refl

-- an edge of a transaction on itself
upon_oneself : verdict model (begin 6 3 ∷ form Cd 7 7 ∷ []) ≡ found (fault FormOfEvent 2 7 ∷ [])
unfolding verdict all_faults owed breaches bad_number bad_class bad_object bad_operation same_transaction is_false
upon_oneself = refl

-- one fault, however much is wrong; it has the first transaction named
ill_formed_in_many_ways : verdict model (begin 6 3 ∷ spawn 7 7 9 ∷ [])
    ≡ found (fault FormOfEvent 2 7 ∷ fault PartiesInProgress 2 7 ∷ [])
unfolding verdict all_faults owed breaches bad_number bad_class bad_object bad_operation same_transaction axiom_number
ill_formed_in_many_ways = refl

-- the highest number, the last class, the last object, and an edge of one on another
well_formed : verdict model (begin LAST_TXN 5 ∷ operate LAST_TXN 2 (Insert (pos 5)) (Flag true) ∷ form Cd 7 6 ∷ [])
    ≡ faultless
unfolding verdict all_faults owed breaches bad_number bad_class bad_object bad_operation same_transaction is_false
well_formed = refl

-- allowed: a transaction begins whose class doesn't allow that start
not_allowed_to_start : verdict model (begin 6 0 ∷ begin 7 2 ∷ []) ≡ found (fault Allowed 2 7 ∷ [])
unfolding verdict all_faults owed breaches bad_number bad_class bad_object bad_operation same_transaction
not_allowed_to_start = refl

-- a transaction reads whose class doesn't allow operations
not_allowed_to_act : verdict model (begin 7 1 ∷ operate 7 0 Read (Value (pos 0)) ∷ [])
    ≡ found (fault Allowed 2 7 ∷ [])
unfolding verdict all_faults owed breaches bad_number bad_class bad_object bad_operation same_transaction
not_allowed_to_act = refl

-- an edge of a transaction whose class may not form any
not_allowed_to_depend : verdict model (begin 7 0 ∷ form Cd 7 6 ∷ []) ≡ found (fault Allowed 2 7 ∷ [])
unfolding verdict all_faults owed breaches bad_number bad_class bad_object bad_operation same_transaction is_false
not_allowed_to_depend = refl

-- and one on it; it has the first transaction named
not_allowed_to_be_depended_on : verdict model (begin 6 0 ∷ form Cd 7 6 ∷ []) ≡ found (fault Allowed 2 7 ∷ [])
unfolding verdict all_faults owed breaches bad_number bad_class bad_object bad_operation same_transaction is_false
not_allowed_to_be_depended_on = refl

-- an edge in a model where no class may form any
not_allowed_to_anyone : verdict edgeless (begin 6 0 ∷ form Cd 7 8 ∷ []) ≡ found (fault Allowed 2 7 ∷ [])
unfolding verdict all_faults owed breaches bad_number bad_class bad_object bad_operation same_transaction is_false
not_allowed_to_anyone = refl

-- events that these classes allow
allowed_all : verdict model (begin 6 3 ∷ begin 7 1 ∷ operate 6 0 Read (Value (pos 0)) ∷ commit 7 ∷ form Cd 8 6 ∷ [])
    ≡ faultless
unfolding verdict all_faults owed breaches bad_number bad_class bad_object bad_operation same_transaction is_false
allowed_all = refl

-- parties in progress: a transaction that never began delegates
transferred_over_by_none : verdict model (begin 6 4 ∷ delegate 7 6 [] ∷ []) ≡ found (fault PartiesInProgress 2 7 ∷ [])
unfolding verdict all_faults owed breaches bad_number bad_class bad_object bad_operation same_transaction
transferred_over_by_none = refl

-- a transaction that never began is delegated to
transferred_to_none : verdict model (begin 6 4 ∷ delegate 6 7 [] ∷ []) ≡ found (fault PartiesInProgress 2 7 ∷ [])
unfolding verdict all_faults owed breaches bad_number bad_class bad_object bad_operation same_transaction
transferred_to_none = refl

-- neither has begun: a fault for each, in order of numbers
transferred_by_and_to_none : verdict model (delegate 7 6 [] ∷ [])
    ≡ found (fault PartiesInProgress 1 6 ∷ fault PartiesInProgress 1 7 ∷ [])
unfolding verdict all_faults owed breaches bad_number bad_class bad_object bad_operation same_transaction axiom_number
transferred_by_and_to_none = refl

-- an aborted transaction is joined
joined_to_none : verdict parting (begin 6 0 ∷ begin 7 0 ∷ abort 7 ∷ join 6 7 ∷ [])
    ≡ found (fault PartiesInProgress 4 7 ∷ [])
unfolding verdict all_faults owed breaches bad_number bad_class bad_object bad_operation same_transaction
joined_to_none = refl

-- a transaction splits that never began
split_by_none : verdict parting (begin 6 0 ∷ split 7 8 0 [] ∷ []) ≡ found (fault PartiesInProgress 2 7 ∷ [])
unfolding verdict all_faults owed breaches bad_number bad_class bad_object bad_operation same_transaction is_false
split_by_none = refl

-- a transaction spawns that never began
spawned_by_none : verdict nesting (begin 6 0 ∷ spawn 7 8 1 ∷ []) ≡ found (fault PartiesInProgress 2 7 ∷ [])
unfolding verdict all_faults owed breaches bad_number bad_class bad_object bad_operation same_transaction is_false
spawned_by_none = refl

-- both have begun
transferred_among_those_in_progress : verdict model (begin 6 4 ∷ begin 7 4 ∷ delegate 6 7 [] ∷ []) ≡ faultless
unfolding verdict all_faults owed breaches bad_number bad_class bad_object bad_operation same_transaction
transferred_among_those_in_progress = refl

-- responsible: an operation of another holder is delegated
transferred_what_another_holds : verdict model (begin 6 4 ∷ begin 7 4 ∷ operate 7 1 (Add (pos 5)) Done ∷ operate 6 1 (Add (pos 5)) Done ∷ delegate 7 6 (2 ∷ []) ∷ [])
    ≡ found (fault Responsible 5 2 ∷ [])
unfolding verdict all_faults owed breaches bad_number bad_class bad_object bad_operation same_transaction is_permitted
transferred_what_another_holds = refl

-- operation numbers that no operation has, that a later one has, and that none can have
transferred_what_is_not_there : verdict model (begin 6 4 ∷ begin 7 4 ∷ delegate 7 6 (0 ∷ 1 ∷ 9 ∷ []) ∷ operate 7 1 (Add (pos 5)) Done ∷ [])
    ≡ found (fault Responsible 3 0 ∷ fault Responsible 3 1 ∷ fault Responsible 3 9 ∷ [])
unfolding verdict all_faults owed breaches bad_number bad_class bad_object bad_operation same_transaction axiom_number
transferred_what_is_not_there = refl

-- an operation that was delegated away is split off
split_what_is_over : verdict parting (begin 6 0 ∷ begin 7 0 ∷ operate 6 1 (Add (pos 5)) Done ∷ operate 6 1 (Add (pos 5)) Done ∷ split 6 8 0 (2 ∷ []) ∷ split 6 9 0 (1 ∷ 2 ∷ []) ∷ [])
    ≡ found (fault Responsible 6 2 ∷ [])
unfolding verdict all_faults owed breaches bad_number bad_class bad_object bad_operation same_transaction is_false
split_what_is_over = refl

-- a transaction delegates its own operation
transferred_what_it_holds : verdict model (begin 6 4 ∷ begin 7 4 ∷ operate 7 1 (Add (pos 5)) Done ∷ operate 6 1 (Add (pos 5)) Done ∷ delegate 6 7 (2 ∷ []) ∷ [])
    ≡ faultless
unfolding verdict all_faults owed breaches bad_number bad_class bad_object bad_operation same_transaction is_permitted
transferred_what_it_holds = refl

-- hands over the whole: a transaction that must transfer all keeps its second operation
kept_one_back : verdict model (begin 6 5 ∷ begin 7 4 ∷ operate 6 1 (Add (pos 5)) Done ∷ operate 6 1 (Add (pos 5)) Done ∷ delegate 6 7 (1 ∷ []) ∷ [])
    ≡ found (fault HandsWhole 5 2 ∷ [])
unfolding verdict all_faults owed breaches bad_number bad_class bad_object bad_operation same_transaction
kept_one_back = refl

-- and so by a split
split_keeps_one_back : verdict parting (begin 6 2 ∷ operate 6 1 (Add (pos 5)) Done ∷ operate 6 1 (Add (pos 5)) Done ∷ split 6 7 0 (1 ∷ []) ∷ [])
    ≡ found (fault HandsWhole 4 2 ∷ [])
unfolding verdict all_faults owed breaches bad_number bad_class bad_object bad_operation same_transaction is_false
split_keeps_one_back = refl

-- it transfers both
transferred_all : verdict model (begin 6 5 ∷ begin 7 4 ∷ operate 6 1 (Add (pos 5)) Done ∷ operate 6 1 (Add (pos 5)) Done ∷ delegate 6 7 (1 ∷ 2 ∷ []) ∷ [])
    ≡ faultless
unfolding verdict all_faults owed breaches bad_number bad_class bad_object bad_operation same_transaction
transferred_all = refl

-- a transaction whose class may transfer any part keeps one back
transferred_any : verdict model (begin 6 4 ∷ begin 7 4 ∷ operate 6 1 (Add (pos 5)) Done ∷ operate 6 1 (Add (pos 5)) Done ∷ delegate 6 7 (1 ∷ []) ∷ [])
    ≡ faultless
unfolding verdict all_faults owed breaches bad_number bad_class bad_object bad_operation same_transaction
transferred_any = refl

-- conflict: a transaction writes over what another has written
written_over : verdict model (begin 6 0 ∷ begin 7 0 ∷ operate 6 1 (Add (pos 5)) Done ∷ operate 6 0 (Write (pos 5)) Done ∷ operate 7 0 (Write (pos 6)) Done ∷ [])
    ≡ found (fault Conflict 5 2 ∷ [])
unfolding verdict all_faults owed breaches bad_number bad_class bad_object bad_operation same_transaction is_permitted
written_over = refl

-- a transaction reads what two others hold: a fault for each
read_from_two : verdict model (begin 6 0 ∷ begin 7 0 ∷ begin 8 0 ∷ operate 6 1 (Add (pos 5)) Done ∷ operate 7 1 (Add (pos 7)) Done ∷ operate 8 1 Get (Value (pos 12)) ∷ [])
    ≡ found (fault Conflict 6 1 ∷ fault Conflict 6 2 ∷ [])
unfolding verdict all_faults owed breaches bad_number bad_class bad_object bad_operation same_transaction axiom_number is_permitted
read_from_two = refl

-- a transaction writes the same value as another
written_the_same : verdict model (begin 6 0 ∷ begin 7 0 ∷ operate 6 1 (Add (pos 5)) Done ∷ operate 6 0 (Write (pos 5)) Done ∷ operate 7 0 (Write (pos 5)) Done ∷ [])
    ≡ faultless
unfolding verdict all_faults owed breaches bad_number bad_class bad_object bad_operation same_transaction is_permitted
written_the_same = refl

-- a transaction writes over a committed write
written_once_committed : verdict model (begin 6 0 ∷ begin 7 0 ∷ operate 6 0 (Write (pos 5)) Done ∷ commit 6 ∷ operate 7 0 (Write (pos 6)) Done ∷ [])
    ≡ faultless
unfolding verdict all_faults owed breaches bad_number bad_class bad_object bad_operation same_transaction
written_once_committed = refl

-- a child writes over what its parent has written
written_over_an_ancestor : verdict nesting (begin 6 0 ∷ operate 6 0 (Write (pos 5)) Done ∷ spawn 6 7 1 ∷ operate 7 0 (Write (pos 6)) Done ∷ [])
    ≡ faultless
unfolding verdict all_faults owed breaches bad_number bad_class bad_object bad_operation same_transaction is_false
written_over_an_ancestor = refl

-- a parent writes over what its child has written
written_over_a_child : verdict nesting (begin 6 0 ∷ operate 6 1 (Add (pos 5)) Done ∷ spawn 6 7 1 ∷ operate 7 0 (Write (pos 6)) Done ∷ operate 6 0 (Write (pos 5)) Done ∷ [])
    ≡ found (fault Conflict 5 2 ∷ [])
unfolding verdict all_faults owed breaches bad_number bad_class bad_object bad_operation same_transaction is_false is_permitted
written_over_a_child = refl

-- a transaction whose class depends writes over what another has written
written_over_loosely : verdict loose (begin 6 0 ∷ begin 7 0 ∷ operate 6 0 (Write (pos 5)) Done ∷ operate 7 0 (Write (pos 6)) Done ∷ [])
    ≡ faultless
unfolding verdict all_faults owed breaches bad_number bad_class bad_object bad_operation same_transaction is_false is_permitted
written_over_loosely = refl

-- a transaction writes over what another has written, with its permit
written_over_by_a_permit : verdict granting (begin 6 0 ∷ begin 7 0 ∷ operate 6 0 (Write (pos 5)) Done ∷ permit 6 7 0 ∷ operate 7 0 (Write (pos 6)) Done ∷ [])
    ≡ faultless
unfolding verdict all_faults owed breaches bad_number bad_class bad_object bad_operation same_transaction is_permitted
written_over_by_a_permit = refl

-- a transaction writes over the write of one that it permits itself: a permit doesn't work both ways
written_over_against_a_permit : verdict granting (begin 6 0 ∷ begin 7 0 ∷ operate 6 0 (Write (pos 5)) Done ∷ permit 7 6 0 ∷ operate 7 0 (Write (pos 6)) Done ∷ [])
    ≡ found (fault Conflict 5 1 ∷ [])
unfolding verdict all_faults owed breaches bad_number bad_class bad_object bad_operation same_transaction is_permitted
written_over_against_a_permit = refl

-- a transaction writes over the write of one that permits it on another object
written_over_by_a_permit_elsewhere : verdict granting (begin 6 0 ∷ begin 7 0 ∷ operate 6 0 (Write (pos 5)) Done ∷ permit 6 7 1 ∷ operate 7 0 (Write (pos 6)) Done ∷ [])
    ≡ found (fault Conflict 5 1 ∷ [])
unfolding verdict all_faults owed breaches bad_number bad_class bad_object bad_operation same_transaction is_permitted
written_over_by_a_permit_elsewhere = refl

-- a transaction writes over a write that a third has taken over from the permitting one: a permit isn't transferred
written_over_what_a_third_holds : verdict granting (begin 6 0 ∷ begin 7 0 ∷ begin 8 0 ∷ operate 6 0 (Write (pos 5)) Done ∷ permit 6 7 0 ∷ delegate 6 8 (1 ∷ []) ∷ operate 7 0 (Write (pos 6)) Done ∷ [])
    ≡ found (fault Conflict 7 1 ∷ [])
unfolding verdict all_faults owed breaches bad_number bad_class bad_object bad_operation same_transaction is_permitted
written_over_what_a_third_holds = refl

-- a permit given before the permitted transaction begins: it counts once both are in progress
permitted_before_it_began : verdict granting (begin 6 0 ∷ operate 6 0 (Write (pos 5)) Done ∷ permit 6 7 0 ∷ begin 7 0 ∷ operate 7 0 (Write (pos 6)) Done ∷ [])
    ≡ found (fault PartiesInProgress 3 7 ∷ [])
unfolding verdict all_faults owed breaches bad_number bad_class bad_object bad_operation same_transaction is_permitted
permitted_before_it_began = refl

-- return: a transaction reads a value that was never there
misread : verdict model (begin 7 0 ∷ operate 7 1 (Add (pos 5)) Done ∷ operate 7 1 Get (Value (pos 9)) ∷ [])
    ≡ found (fault Return 3 2 ∷ [])
unfolding verdict all_faults owed breaches bad_number bad_class bad_object bad_operation same_transaction
misread = refl

-- a transaction reads an amount that another has added and aborted
read_what_was_aborted : verdict model (begin 6 0 ∷ begin 7 0 ∷ operate 6 1 (Add (pos 5)) Done ∷ abort 6 ∷ operate 7 1 Get (Value (pos 5)) ∷ [])
    ≡ found (fault Return 5 2 ∷ [])
unfolding verdict all_faults owed breaches bad_number bad_class bad_object bad_operation same_transaction
read_what_was_aborted = refl

-- an operation with no return
returned_nothing : verdict model (begin 7 0 ∷ operate 7 1 (Add (pos 5)) Done ∷ plain (operate 7 1 Get Done).event ∷ [])
    ≡ found (fault Return 3 2 ∷ [])
unfolding verdict all_faults owed breaches bad_number bad_class bad_object bad_operation same_transaction
returned_nothing = refl

-- a commit with a return
returned_by_no_operation : verdict model (begin 7 0 ∷ record (commit 7) { ret = Some Done } ∷ [])
    ≡ found (fault Return 2 0 ∷ [])
unfolding verdict all_faults owed breaches bad_number bad_class bad_object bad_operation same_transaction
returned_by_no_operation = refl

-- a transaction reads the value that is there
read_what_is_there : verdict model (begin 7 0 ∷ operate 7 1 (Add (pos 5)) Done ∷ operate 7 1 Get (Value (pos 5)) ∷ [])
    ≡ faultless
unfolding verdict all_faults owed breaches bad_number bad_class bad_object bad_operation same_transaction
read_what_is_there = refl

-- heir: a transaction commits to an aborted parent
no_heir_left : verdict untied (begin 6 0 ∷ spawn 6 7 1 ∷ abort 6 ∷ commit 7 ∷ []) ≡ found (fault Heir 4 6 ∷ [])
unfolding verdict all_faults owed breaches bad_number bad_class bad_object bad_operation same_transaction
no_heir_left = refl

-- a transaction commits to a parent that has joined another
no_heir_after_a_join : verdict untied (begin 6 0 ∷ begin 5 0 ∷ spawn 6 7 1 ∷ join 6 5 ∷ commit 7 ∷ [])
    ≡ found (fault Heir 5 6 ∷ [])
unfolding verdict all_faults owed breaches bad_number bad_class bad_object bad_operation same_transaction
no_heir_after_a_join = refl

-- a transaction commits that has no parent, since its spawner never began
no_parent : verdict untied (spawn 6 7 1 ∷ commit 7 ∷ []) ≡ found (fault PartiesInProgress 1 6 ∷ fault Heir 2 0 ∷ [])
unfolding verdict all_faults owed breaches bad_number bad_class bad_object bad_operation same_transaction axiom_number
no_parent = refl

-- a transaction commits to a parent in progress
committed_to_its_heir : verdict untied (begin 6 0 ∷ spawn 6 7 1 ∷ commit 7 ∷ abort 6 ∷ []) ≡ faultless
unfolding verdict all_faults owed breaches bad_number bad_class bad_object bad_operation same_transaction
committed_to_its_heir = refl

-- a transaction that aborts needs no heir
left_without_heir : verdict untied (begin 6 0 ∷ spawn 6 7 1 ∷ commit 6 ∷ abort 7 ∷ []) ≡ faultless
unfolding verdict all_faults owed breaches bad_number bad_class bad_object bad_operation same_transaction
left_without_heir = refl

-- formed in time: an edge of a begin kind of a begun transaction
formed_after_the_start : verdict model (begin 6 3 ∷ begin 7 3 ∷ form Bd 7 6 ∷ [])
    ≡ found (fault FormedInTime 3 7 ∷ [])
unfolding verdict all_faults owed breaches bad_number bad_class bad_object bad_operation same_transaction is_false
formed_after_the_start = refl

-- an edge of another kind on an ended transaction
formed_after_an_end : verdict model (begin 6 3 ∷ abort 6 ∷ form Cd 7 6 ∷ []) ≡ found (fault FormedInTime 3 6 ∷ [])
unfolding verdict all_faults owed breaches bad_number bad_class bad_object bad_operation same_transaction is_false
formed_after_an_end = refl

-- and if both have ended, the fault has the smaller number
formed_after_both_ends : verdict model (begin 6 3 ∷ begin 7 3 ∷ abort 7 ∷ abort 6 ∷ form Cd 7 6 ∷ [])
    ≡ found (fault FormedInTime 5 6 ∷ [])
unfolding verdict all_faults owed breaches bad_number bad_class bad_object bad_operation same_transaction is_false
formed_after_both_ends = refl

-- an edge of a begin kind on an ended transaction, and an edge of another kind of a begun one
formed_in_time : verdict model (begin 6 3 ∷ commit 6 ∷ form Bd 7 6 ∷ begin 7 3 ∷ form Cd 7 8 ∷ []) ≡ faultless
unfolding verdict all_faults owed breaches bad_number bad_class bad_object bad_operation same_transaction is_false
formed_in_time = refl
