-- Examples of the clash of debts, and of whole verdicts: their order, and that each fault is listed once.
use Rattle.std.specs.Prelude.{pos, [], ◌∷◌, ◌≡◌, refl}
use Rattle.acta_table.specs.declared.dep.Dep.TheVariants.{Cd, Scd, Ad, Ed, Cmd}
use Rattle.acta_table.specs.declared.dep.Missing.TheVariants.{Commit, Abort}
use Rattle.acta_table.specs.declared.event.Op.TheVariants.{Read, Write}
use Rattle.acta_table.specs.declared.event.Ret.TheVariants.{Done, Value}
use Rattle.acta_table.specs.WellFormed.{bad_number, bad_class, bad_object, same_transaction}
use Rattle.acta_objects.specs.WellFormed.{bad_operation}
use Rattle.acta_axioms.specs.declared.fault.Axiom.TheVariants.{EndedAfterBegun, EndedOnce, OperatesInProgress, FormOfEvent, PartiesInProgress, Conflict, Return, Dependency, Clash}
use Rattle.acta_axioms.specs.Axioms.{axiom_number}
use Rattle.acta_axioms.specs.Faults.{breaches}
use Rattle.acta_axioms.specs.Formulas.{is_false}
use Rattle.acta_axioms.specs.Legal.{owed}
use Rattle.acta_axioms.specs.Permits.{is_permitted}
use Rattle.acta_axioms.proofs.Histories.{begin, spawn, form, operate, commit, abort, owes, fault, model, nesting, loose}
use Rattle.acta_judge.specs.Broken.{place_broken}
use Rattle.acta_judge.specs.Verdicts.{all_faults, verdict}
use Rattle.acta_judge.proofs.Histories.{found, owing, faultless, free}

-- clash: 3 owes a commit and an abort, and still does at the last place
clashes : verdict free (form Scd 3 2 ∷ form Ed 3 2 ∷ begin 2 0 ∷ begin 3 0 ∷ commit 2 ∷ begin 4 0 ∷ [])
    ≡ record { faults = fault Clash 6 3 ∷ []; owed = owes 1 3 Commit ∷ owes 2 3 Abort ∷ [] }
unfolding verdict all_faults owed breaches bad_number bad_class bad_object bad_operation same_transaction is_false place_broken
clashes = refl

-- 3 owes a commit, and 4 an abort
does_not_clash : verdict free (form Scd 3 2 ∷ form Ed 4 2 ∷ begin 2 0 ∷ begin 3 0 ∷ begin 4 0 ∷ commit 2 ∷ [])
    ≡ owing (owes 1 3 Commit ∷ owes 2 4 Abort ∷ [])
unfolding verdict all_faults owed breaches bad_number bad_class bad_object bad_operation same_transaction is_false place_broken
does_not_clash = refl

-- 3 owes a commit and an abort, by two edges each: one fault
clashes_once : verdict free (form Scd 3 1 ∷ form Ad 3 2 ∷ form Cmd 3 2 ∷ form Ed 3 1 ∷ begin 1 0 ∷ begin 2 0 ∷ begin 3 0 ∷ commit 1 ∷ abort 2 ∷ [])
    ≡ record { faults = fault Clash 9 3 ∷ []; owed = owes 1 3 Commit ∷ owes 2 3 Abort ∷ owes 3 3 Commit ∷ owes 4 3 Abort ∷ [] }
unfolding verdict all_faults owed breaches bad_number bad_class bad_object bad_operation same_transaction is_false place_broken axiom_number
clashes_once = refl

-- two transactions owe both: in order of their numbers
clashes_in_two : verdict free (form Scd 4 2 ∷ form Ed 4 2 ∷ form Scd 3 2 ∷ form Ed 3 2 ∷ begin 2 0 ∷ begin 3 0 ∷ begin 4 0 ∷ commit 2 ∷ [])
    ≡ record { faults = fault Clash 8 3 ∷ fault Clash 8 4 ∷ []; owed = owes 1 4 Commit ∷ owes 2 4 Abort ∷ owes 3 3 Commit ∷ owes 4 3 Abort ∷ [] }
unfolding verdict all_faults owed breaches bad_number bad_class bad_object bad_operation same_transaction is_false place_broken axiom_number
clashes_in_two = refl

-- the transaction that owed both has ended: the debt that its end did not pay is a fault
clashes_no_more : verdict free (form Scd 3 2 ∷ form Ed 3 2 ∷ begin 2 0 ∷ begin 3 0 ∷ commit 2 ∷ abort 3 ∷ [])
    ≡ found (fault (Dependency Scd) 6 1 ∷ [])
unfolding verdict all_faults owed breaches bad_number bad_class bad_object bad_operation same_transaction is_false place_broken
clashes_no_more = refl

-- nothing happened
nothing : verdict model ([]) ≡ faultless
unfolding verdict all_faults owed breaches bad_number bad_class bad_object bad_operation same_transaction is_false place_broken
nothing = refl

-- commits again and again: all faults of an axiom come before those of the next
again_and_again : verdict model (commit 2 ∷ commit 2 ∷ commit 2 ∷ [])
    ≡ found (fault EndedAfterBegun 1 2 ∷ fault EndedAfterBegun 2 2 ∷ fault EndedAfterBegun 3 2 ∷ fault EndedOnce 2 2 ∷ fault EndedOnce 3 2 ∷ [])
unfolding verdict all_faults owed breaches bad_number bad_class bad_object bad_operation same_transaction is_false place_broken axiom_number
again_and_again = refl

-- a committed transaction reads a value that was never there, of an object that another has written: three faults at one
-- place
at_one_place : verdict model (begin 6 0 ∷ begin 7 0 ∷ operate 6 0 (Write (pos 5)) Done ∷ commit 7 ∷ operate 7 0 Read (Value (pos 9)) ∷ [])
    ≡ found (fault OperatesInProgress 5 7 ∷ fault Conflict 5 1 ∷ fault Return 5 2 ∷ [])
unfolding verdict all_faults owed breaches bad_number bad_class bad_object bad_operation same_transaction is_false place_broken axiom_number is_permitted
at_one_place = refl

-- an edge of a transaction on itself, whose formula its abort makes false
upon_itself : verdict free (form Cmd 7 7 ∷ begin 7 0 ∷ abort 7 ∷ [])
    ≡ found (fault FormOfEvent 1 7 ∷ fault (Dependency Cmd) 3 1 ∷ [])
unfolding verdict all_faults owed breaches bad_number bad_class bad_object bad_operation same_transaction is_false place_broken axiom_number
upon_itself = refl

-- two that spawn each other: only the first spawner was not in progress, and commits to the other
in_turn : verdict nesting (spawn 6 7 1 ∷ spawn 7 6 1 ∷ commit 6 ∷ []) ≡ found (fault PartiesInProgress 1 6 ∷ [])
unfolding verdict all_faults owed breaches bad_number bad_class bad_object bad_operation same_transaction is_false place_broken
in_turn = refl

-- two edges whose formulas one event makes false: by the numbers of the edges
two_edges : verdict free (form Ad 4 2 ∷ form Ad 3 2 ∷ begin 2 0 ∷ begin 3 0 ∷ begin 4 0 ∷ commit 3 ∷ commit 4 ∷ abort 2 ∷ [])
    ≡ found (fault (Dependency Ad) 8 1 ∷ fault (Dependency Ad) 8 2 ∷ [])
unfolding verdict all_faults owed breaches bad_number bad_class bad_object bad_operation same_transaction is_false place_broken axiom_number
two_edges = refl

-- an edge that is formed twice is one edge, and the next has the number 2
formed_twice : verdict free (form Ad 6 5 ∷ form Ad 6 5 ∷ form Cd 6 5 ∷ begin 5 0 ∷ begin 6 0 ∷ commit 6 ∷ commit 5 ∷ [])
    ≡ found (fault (Dependency Cd) 7 2 ∷ [])
unfolding verdict all_faults owed breaches bad_number bad_class bad_object bad_operation same_transaction is_false place_broken
formed_twice = refl

-- a transaction reads what another has written, which aborts: it owes an abort by the first of two edges
edges_by_behaviour : verdict loose (begin 6 0 ∷ begin 7 0 ∷ operate 6 0 (Write (pos 5)) Done ∷ operate 7 0 Read (Value (pos 5)) ∷ abort 6 ∷ [])
    ≡ owing (owes 1 7 Abort ∷ [])
unfolding verdict all_faults owed breaches bad_number bad_class bad_object bad_operation same_transaction is_false place_broken is_permitted
edges_by_behaviour = refl
