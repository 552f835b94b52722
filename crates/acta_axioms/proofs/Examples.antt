-- Examples: the definitions applied to some histories, legal and not.
use Rattle.std.specs.Prelude.{ℕ, true, false, Option, Some, None, pos, List, [], ◌∷◌, ◌++◌, map, take, ◌≡◌, refl}
use Rattle.acta_table.specs.declared.dep.Dep.{Dep}
use Rattle.acta_table.specs.declared.dep.Edge.{Edge}
use Rattle.acta_table.specs.declared.dep.Dep.TheVariants.{Cd, Scd, Ad, Wd, Td, Ed, Cmd, Bd, Sd, Bcd, Bad, Wcd}
use Rattle.acta_table.specs.declared.dep.Missing.TheVariants.{Commit, Abort}
use Rattle.acta_table.specs.declared.event.Kept.{Kept}
use Rattle.acta_table.specs.declared.event.Op.TheVariants.{Read, Write, Get, Add, Insert, Has, Size}
use Rattle.acta_table.specs.declared.event.Ret.TheVariants.{Done, Value, Flag}
use Rattle.acta_table.specs.declared.model.Parts.{Parts}
use Rattle.acta_table.specs.declared.answer.Fate.{Fate}
use Rattle.acta_table.specs.declared.answer.Fate.TheVariants.{InProgress, Committed, Aborted}
use Rattle.acta_table.specs.declared.answer.Status.TheVariants.{NotBegun, InProgress as in_progress, Committed as committed, Aborted as aborted, Joined}
use Rattle.acta_table.specs.WellFormed.{bad_number, bad_class, bad_object, same_transaction}
use Rattle.acta_objects.specs.WellFormed.{bad_operation}
use Rattle.acta_axioms.specs.declared.fault.Fault.{Fault}
use Rattle.acta_axioms.specs.declared.fault.Axiom.TheVariants.{BegunOnce, EndedAfterBegun, EndedOnce, OperatesInProgress, FormOfEvent, Allowed, PartiesInProgress, Responsible, HandsWhole, Conflict, Return, Heir, FormedInTime}
use Rattle.acta_axioms.specs.History.{course, is_in_progress, class_number, ancestors}
use Rattle.acta_axioms.specs.Permits.{is_permitted}
use Rattle.acta_axioms.specs.Operations.{Operation, heir, holder_at, fate_at, access_set, conflict_set, view_set}
use Rattle.acta_axioms.specs.Values.{return_due}
use Rattle.acta_axioms.specs.Edges.{edges}
use Rattle.acta_axioms.specs.Formulas.{is_false}
use Rattle.acta_axioms.specs.Legal.{is_broken_in, owed, has_clash, is_legal}
use Rattle.acta_axioms.specs.Faults.{breaches, faults_in_places}
use Rattle.acta_axioms.specs.Claims.{status_at}
use Rattle.acta_axioms.specs.declared.serial.SerialItem.{SerialItem}
use Rattle.acta_axioms.specs.Serial.{is_strict, serial_order, replayed}
use Rattle.acta_axioms.specs.SerialItems.{serial_items}
use Rattle.acta_table.specs.declared.model.Kind.TheVariants.{Register, Counter, Elements}
use Rattle.acta_table.specs.declared.event.Op.{Op}
use Rattle.acta_table.specs.declared.event.Ret.{Ret}
use Rattle.acta_axioms.proofs.Histories.{begin, spawn, split, join, delegate, form, operate, commit, abort, edge, owes, fault, plain, model, edgeless, parting, nesting, loose, class, Said, parsed, holds, is_due, breaks}

-- the numbers of the operations
abbrev numbers : List Operation → List ℕ
numbers os = map (λ o. o.number) os

-- what is said of a history in a model
abbrev by : {X : Type 0} → Parts (Unit {0}) → List (Kept (Unit {0})) → X → Parts (Unit {0}) × List (Kept (Unit {0})) × X
by m h is = (m, h, is)

-- a transaction that writes and commits
abbrev written : List (Kept (Unit {0}))
written = begin 1 0 ∷ operate 1 0 (Write (pos 5)) Done ∷ commit 1 ∷ []

-- sums commute, and aborted operations do not count
abbrev counted : List (Kept (Unit {0}))
counted =
    begin 1 0 ∷ begin 2 0 ∷ operate 1 1 (Add (pos 5)) Done ∷ operate 2 1 (Add (pos 7)) Done ∷ abort 1
    ∷ operate 2 1 Get (Value (pos 7)) ∷ []

-- many things wrong at once: a second begin, an operation of one that never began and one that conflicts
-- with it, operations on no object and not of their object's kind (left out of values and conflicts,
-- but held and ended as any), two ends, and a number and a class that are not there
abbrev unruly : List (Kept (Unit {0}))
unruly =
    begin 1 0 ∷ begin 1 1 ∷ operate 2 0 (Write (pos 5)) Done ∷ operate 1 0 (Write (pos 6)) Done
    ∷ operate 1 9 Read Done ∷ operate 1 0 (Insert (pos 1)) (Flag true) ∷ commit 1 ∷ abort 1 ∷ begin 65535 9 ∷ []

-- a transaction that owes both a commit and an abort: each formula is owed, but the history is not legal
abbrev all_owing_both : List (Kept (Unit {0}))
all_owing_both = form Scd 2 1 ∷ form Ed 2 1 ∷ begin 1 3 ∷ begin 2 3 ∷ commit 1 ∷ []

-- a delegated operation: its new holder commits it, whatever its invoker does
abbrev transferred : List (Kept (Unit {0}))
transferred = begin 1 4 ∷ begin 2 4 ∷ operate 1 0 (Write (pos 5)) Done ∷ delegate 1 2 (1 ∷ []) ∷ abort 1 ∷ commit 2 ∷ []

-- it can be delegated back
abbrev returned : List (Kept (Unit {0}))
returned = take 4 transferred ++ delegate 2 1 (1 ∷ []) ∷ abort 2 ∷ commit 1 ∷ []

-- a delegation by a transaction that does not hold the operation changes nothing, nor does one after its end
abbrev unheld : List (Kept (Unit {0}))
unheld =
    begin 1 4 ∷ begin 2 4 ∷ operate 1 0 (Write (pos 5)) Done ∷ delegate 2 1 (1 ∷ []) ∷ commit 1
    ∷ delegate 1 2 (1 ∷ []) ∷ abort 2 ∷ []

-- operations that have the number 0, stand later and are not there at all
abbrev unknown : List (Kept (Unit {0}))
unknown = begin 1 4 ∷ begin 2 4 ∷ delegate 1 2 (0 ∷ 1 ∷ 7 ∷ []) ∷ operate 1 0 (Write (pos 5)) Done ∷ []

-- a partial delegation although all is required: it leaves out the operations in progress that the transaction holds
abbrev partial : List (Kept (Unit {0}))
partial =
    begin 1 5 ∷ begin 2 4 ∷ operate 1 0 (Write (pos 5)) Done ∷ operate 1 1 (Add (pos 5)) Done
    ∷ operate 2 1 (Add (pos 7)) Done ∷ operate 1 2 (Insert (pos 1)) (Flag true) ∷ delegate 1 2 (2 ∷ [])
    ∷ delegate 1 2 (1 ∷ 4 ∷ []) ∷ delegate 1 2 [] ∷ []

-- a delegation of a transaction to itself changes nothing
abbrev own : List (Kept (Unit {0}))
own = begin 1 4 ∷ operate 1 0 (Write (pos 5)) Done ∷ delegate 1 1 (1 ∷ []) ∷ commit 1 ∷ []

-- a transaction splits off another with the first of its two operations and then joins it; both operations are
-- committed
abbrev parted : List (Kept (Unit {0}))
parted =
    begin 1 0 ∷ operate 1 0 (Write (pos 5)) Done ∷ operate 1 1 (Add (pos 5)) Done ∷ split 1 2 0 (1 ∷ [])
    ∷ join 1 2 ∷ commit 2 ∷ []

-- a transaction spawns a child, which writes over its parent's write and commits to it; the parent aborts
abbrev nested : List (Kept (Unit {0}))
nested =
    begin 1 0 ∷ operate 1 0 (Write (pos 5)) Done ∷ spawn 1 2 1 ∷ operate 2 0 (Write (pos 6)) Done
    ∷ commit 2 ∷ abort 1 ∷ []

-- children of children; the last is spawned again by another transaction and keeps its ancestors
abbrev lined : List (Kept (Unit {0}))
lined = begin 1 0 ∷ spawn 1 2 1 ∷ spawn 2 3 1 ∷ spawn 1 3 1 ∷ []

-- a transaction spawned by one that had not begun has no parent; one whose parent has ended still has an heir
abbrev bereft : List (Kept (Unit {0}))
bereft = spawn 9 2 1 ∷ begin 1 0 ∷ spawn 1 3 1 ∷ abort 1 ∷ commit 3 ∷ commit 2 ∷ []

-- a reader depends on the writer, and on the transaction to which the write was delegated
abbrev read_loosely : List (Kept (Unit {0}))
read_loosely =
    begin 1 0 ∷ begin 2 0 ∷ begin 3 0 ∷ operate 1 0 (Write (pos 5)) Done ∷ operate 2 0 Read (Value (pos 5))
    ∷ delegate 1 3 (1 ∷ []) ∷ operate 2 0 Read (Value (pos 5)) ∷ []

-- the courses, classes (the first begin gives it), statuses, ancestors and heirs
courses_shown :
    (course written 1 ≡ record { start = Some 1; commit = Some 3; abort = None; join = None })
    × (course unruly 1 ≡ record { start = Some 1; commit = Some 7; abort = Some 8; join = None })
    × (map (course parted) (1 ∷ 2 ∷ []) ≡
    record { start = Some 1; commit = None; abort = None; join = Some 5 }
    ∷ record { start = Some 4; commit = Some 6; abort = None; join = None } ∷ [])
    × (map (course nested) (1 ∷ 2 ∷ []) ≡
    record { start = Some 1; commit = None; abort = Some 6; join = None }
    ∷ record { start = Some 3; commit = Some 5; abort = None; join = None } ∷ [])
    × (map (class_number written) (1 ∷ 2 ∷ []) ≡ Some 0 ∷ None ∷ [])
    × (class_number unruly 1 ≡ Some 0)
    × (class_number parted 2 ≡ Some 0)
    × (class_number nested 2 ≡ Some 1)
    × (map (status_at written) (1 ∷ 2 ∷ []) ≡ committed ∷ NotBegun ∷ [])
    × (map (status_at counted) (1 ∷ 2 ∷ []) ≡ aborted ∷ in_progress ∷ [])
    × (map (λ n. map (status_at (take n parted)) (1 ∷ 2 ∷ [])) (4 ∷ 5 ∷ 6 ∷ []) ≡
    (in_progress ∷ in_progress ∷ []) ∷ (Joined ∷ in_progress ∷ []) ∷ (Joined ∷ committed ∷ []) ∷ [])
    × (is_in_progress (commit 1 ∷ begin 1 0 ∷ []) 1 ≡ false)
    × (map (λ t. map (λ a. a.0) (ancestors lined t)) (1 ∷ 2 ∷ 3 ∷ 4 ∷ []) ≡ [] ∷ (1 ∷ []) ∷ (2 ∷ 1 ∷ []) ∷ [] ∷ [])
    × (map (heir nesting bereft) (1 ∷ 2 ∷ 3 ∷ []) ≡ None ∷ None ∷ Some (record { 0 = 1 }) ∷ [])
courses_shown = (refl, refl, refl, refl, refl, refl, refl, refl, refl, refl, refl, refl, refl, refl)

-- the holder of an operation after these places
abbrev held : List (Parts (Unit {0}) × List (Kept (Unit {0})) × ℕ × List ℕ × List (Option ℕ))
held =
    -- the operation stands at the second place; there is no operation 0 or 2
    (model, written, 1, 0 ∷ 1 ∷ 2 ∷ 3 ∷ 9 ∷ [], None ∷ None ∷ Some 1 ∷ Some 1 ∷ Some 1 ∷ [])
    ∷ (model, written, 0, 9 ∷ [], None ∷ [])
    ∷ (model, written, 2, 9 ∷ [], None ∷ [])
    ∷ (model, transferred, 1, 2 ∷ 3 ∷ 4 ∷ 5 ∷ 6 ∷ 9 ∷ [], None ∷ Some 1 ∷ Some 2 ∷ Some 2 ∷ Some 2 ∷ Some 2 ∷ [])
    ∷ (model, returned, 1, 3 ∷ 4 ∷ 5 ∷ 6 ∷ 7 ∷ [], Some 1 ∷ Some 2 ∷ Some 1 ∷ Some 1 ∷ Some 1 ∷ [])
    ∷ (model, unheld, 1, 3 ∷ 4 ∷ 5 ∷ 6 ∷ 7 ∷ [], Some 1 ∷ Some 1 ∷ Some 1 ∷ Some 1 ∷ Some 1 ∷ [])
    ∷ (model, unknown, 1, 4 ∷ [], Some 1 ∷ [])
    ∷ (model, own, 1, 2 ∷ 3 ∷ 4 ∷ [], Some 1 ∷ Some 1 ∷ Some 1 ∷ [])
    ∷ (parting, parted, 1, 3 ∷ 4 ∷ 5 ∷ 6 ∷ [], Some 1 ∷ Some 2 ∷ Some 2 ∷ Some 2 ∷ [])
    ∷ (parting, parted, 2, 3 ∷ 4 ∷ 5 ∷ 6 ∷ [], Some 1 ∷ Some 1 ∷ Some 2 ∷ Some 2 ∷ [])
    -- what the child did is its parent's from its commit on
    ∷ (nesting, nested, 1, 4 ∷ 5 ∷ 6 ∷ [], Some 1 ∷ Some 1 ∷ Some 1 ∷ [])
    ∷ (nesting, nested, 2, 4 ∷ 5 ∷ 6 ∷ [], Some 2 ∷ Some 1 ∷ Some 1 ∷ [])
    ∷ []

held_shown : map (λ r. map (holder_at r.0 r.1 r.2) r.3) held ≡ map (λ r. r.4) held
held_shown = refl

-- the fate of an operation after these places
abbrev fates : List (Parts (Unit {0}) × List (Kept (Unit {0})) × ℕ × List ℕ × List (Option Fate))
fates =
    (model, written, 1, 1 ∷ 2 ∷ 3 ∷ 9 ∷ [], None ∷ Some InProgress ∷ Some Committed ∷ Some Committed ∷ [])
    ∷ (model, counted, 1, 6 ∷ [], Some Aborted ∷ [])
    ∷ (model, counted, 2, 6 ∷ [], Some InProgress ∷ [])
    ∷ (model, counted, 3, 6 ∷ [], Some InProgress ∷ [])
    ∷ (model, unruly, 1, 9 ∷ [], Some InProgress ∷ [])  -- once committed they stay so
    ∷ (model, unruly, 2, 9 ∷ [], Some Committed ∷ [])
    ∷ (model, unruly, 3, 9 ∷ [], Some Committed ∷ [])
    ∷ (model, unruly, 4, 9 ∷ [], Some Committed ∷ [])
    ∷ (model, transferred, 1, 3 ∷ 4 ∷ 5 ∷ 6 ∷ [], Some InProgress ∷ Some InProgress ∷ Some InProgress ∷ Some Committed ∷ [])
    ∷ (model, returned, 1, 5 ∷ 6 ∷ 7 ∷ [], Some InProgress ∷ Some InProgress ∷ Some Committed ∷ [])
    ∷ (model, unheld, 1, 4 ∷ 5 ∷ 6 ∷ 7 ∷ [], Some InProgress ∷ Some Committed ∷ Some Committed ∷ Some Committed ∷ [])
    ∷ (model, own, 1, 4 ∷ [], Some Committed ∷ [])
    ∷ (parting, parted, 1, 4 ∷ 5 ∷ 6 ∷ [], Some InProgress ∷ Some InProgress ∷ Some Committed ∷ [])
    ∷ (parting, parted, 2, 4 ∷ 5 ∷ 6 ∷ [], Some InProgress ∷ Some InProgress ∷ Some Committed ∷ [])
    -- what the child did is aborted with the parent
    ∷ (nesting, nested, 1, 4 ∷ 5 ∷ 6 ∷ [], Some InProgress ∷ Some InProgress ∷ Some Aborted ∷ [])
    ∷ (nesting, nested, 2, 4 ∷ 5 ∷ 6 ∷ [], Some InProgress ∷ Some InProgress ∷ Some Aborted ∷ [])
    ∷ []

fates_shown : map (λ r. map (fate_at r.0 r.1 r.2) r.3) fates ≡ map (λ r. r.4) fates
fates_shown = refl

-- a transaction that commits before it begins has no heir then
early_shown :
    let write = operate 3 0 (Write (pos 5)) Done in
    let h = write ∷ commit 3 ∷ begin 1 0 ∷ spawn 1 3 1 ∷ write ∷ commit 3 ∷ [] in
    map (λ o. fate_at nesting h o 6) (1 ∷ 2 ∷ []) ≡ Some Committed ∷ Some InProgress ∷ []
early_shown = refl

-- the sets, by the numbers of their operations, and the return due by them; a child has nothing in its conflict set,
-- and its parent has what the child holds
sets_shown :
    (map numbers (access_set model counted 1 ∷ access_set model counted 2 ∷ []) ≡ [] ∷ (2 ∷ 3 ∷ []) ∷ [])
    × (map numbers (conflict_set model counted 1 ∷ conflict_set model counted 2 ∷ []) ≡ (2 ∷ 3 ∷ []) ∷ [] ∷ [])
    × (numbers (view_set model counted) ≡ 2 ∷ 3 ∷ [])
    × (return_due model counted 1 Get ≡ Some (Value (pos 7)))
    × (map (λ t. numbers (access_set model (take 4 transferred) t)) (1 ∷ 2 ∷ []) ≡ [] ∷ (1 ∷ []) ∷ [])
    × (map (λ n. numbers (access_set model (take n partial) 2)) (6 ∷ 7 ∷ 8 ∷ [])
    ≡ (3 ∷ []) ∷ (2 ∷ 3 ∷ []) ∷ (1 ∷ 2 ∷ 3 ∷ 4 ∷ []) ∷ [])
    × (map (λ t. numbers (conflict_set nesting (take 4 nested) t)) (1 ∷ 2 ∷ 3 ∷ []) ≡ (2 ∷ []) ∷ [] ∷ (1 ∷ 2 ∷ []) ∷ [])
unfolding is_permitted
sets_shown = (refl, refl, refl, refl, refl, refl, refl)

-- what is said of an edge of 2 on 1, by its kind and the history behind it
abbrev formulas : List (Dep × List (Kept (Unit {0})) × Said)
formulas =
    (Cd, begin 1 3 ∷ begin 2 3 ∷ commit 1 ∷ commit 2 ∷ [], holds)  -- commit: of two commits that of 1 is first
    ∷ (Cd, begin 1 3 ∷ begin 2 3 ∷ commit 2 ∷ commit 1 ∷ [], breaks)
    ∷ (Scd, begin 1 3 ∷ begin 2 3 ∷ commit 1 ∷ commit 2 ∷ [], holds)  -- strong-commit: once 1 commits, 2 owes a commit
    ∷ (Scd, begin 1 3 ∷ begin 2 3 ∷ commit 1 ∷ [], is_due Commit)
    ∷ (Scd, begin 1 3 ∷ begin 2 3 ∷ abort 2 ∷ commit 1 ∷ [], breaks)
    ∷ (Ad, begin 1 3 ∷ begin 2 3 ∷ abort 1 ∷ abort 2 ∷ [], holds)  -- abort: once 1 aborts, 2 owes an abort
    ∷ (Ad, begin 1 3 ∷ begin 2 3 ∷ abort 1 ∷ [], is_due Abort)
    ∷ (Ad, begin 1 3 ∷ begin 2 3 ∷ commit 2 ∷ abort 1 ∷ [], breaks)
    ∷ (Wd, begin 1 3 ∷ begin 2 3 ∷ commit 2 ∷ abort 1 ∷ [], holds)  -- weak-abort: as abort, but 2 may commit before it
    ∷ (Wd, begin 1 3 ∷ begin 2 3 ∷ abort 1 ∷ [], is_due Abort)
    ∷ (Wd, begin 1 3 ∷ begin 2 3 ∷ abort 1 ∷ commit 2 ∷ [], breaks)
    ∷ (Td, begin 1 3 ∷ begin 2 3 ∷ abort 1 ∷ commit 2 ∷ [], holds)  -- termination: 2 ends after 1 has
    ∷ (Td, begin 1 3 ∷ begin 2 3 ∷ commit 2 ∷ abort 1 ∷ [], breaks)
    ∷ (Ed, begin 1 3 ∷ commit 1 ∷ [], holds)  -- exclusion: once 1 commits, 2 owes an abort, if it has begun
    ∷ (Ed, begin 1 3 ∷ begin 2 3 ∷ abort 2 ∷ commit 1 ∷ [], holds)
    ∷ (Ed, begin 1 3 ∷ begin 2 3 ∷ commit 1 ∷ [], is_due Abort)
    ∷ (Ed, begin 1 3 ∷ begin 2 3 ∷ commit 2 ∷ commit 1 ∷ [], breaks)
    -- force-commit-on-abort: once 1 aborts, 2 owes a commit, begun or not
    ∷ (Cmd, begin 1 3 ∷ abort 1 ∷ begin 2 3 ∷ commit 2 ∷ [], holds)
    ∷ (Cmd, begin 1 3 ∷ abort 1 ∷ [], is_due Commit)
    ∷ (Cmd, begin 1 3 ∷ begin 2 3 ∷ abort 2 ∷ abort 1 ∷ [], breaks)
    ∷ (Bd, begin 1 3 ∷ begin 2 3 ∷ [], holds)  -- begin: 2 begins after 1 has
    ∷ (Bd, begin 2 3 ∷ begin 1 3 ∷ [], breaks)
    ∷ (Sd, begin 1 3 ∷ abort 1 ∷ begin 2 3 ∷ [], holds)  -- serial: 2 begins after 1 has ended
    ∷ (Sd, begin 1 3 ∷ begin 2 3 ∷ abort 1 ∷ [], breaks)
    ∷ (Bcd, begin 1 3 ∷ commit 1 ∷ begin 2 3 ∷ [], holds)  -- begin-on-commit: 2 begins after 1 has committed
    ∷ (Bcd, begin 1 3 ∷ abort 1 ∷ begin 2 3 ∷ [], breaks)
    ∷ (Bad, begin 1 3 ∷ abort 1 ∷ begin 2 3 ∷ [], holds)  -- begin-on-abort: 2 begins after 1 has aborted
    ∷ (Bad, begin 1 3 ∷ commit 1 ∷ begin 2 3 ∷ [], breaks)
    -- weak-begin-on-commit: of the commit of 1 and the begin of 2 the commit is first
    ∷ (Wcd, begin 1 3 ∷ commit 1 ∷ begin 2 3 ∷ [], holds)
    ∷ (Wcd, begin 1 3 ∷ begin 2 3 ∷ abort 1 ∷ [], holds)
    ∷ (Wcd, begin 1 3 ∷ begin 2 3 ∷ commit 1 ∷ [], breaks)
    ∷ []

formulas_shown : map (λ r. parsed r.0 r.1) formulas ≡ map (λ r. r.2) formulas
unfolding is_false is_legal
formulas_shown = refl

-- before the commit nothing is owed
owing_both_shown :
    (owed model all_owing_both ≡ owes 1 2 Commit ∷ owes 2 2 Abort ∷ [])
    × (owed model (take 4 all_owing_both) ≡ [])
    × (map (is_broken_in all_owing_both) (edges model all_owing_both) ≡ false ∷ false ∷ [])
    × (has_clash model all_owing_both ≡ true)
    × (is_legal model all_owing_both ≡ false)
    × (is_legal parting parted ≡ true)
unfolding is_false owed is_legal
owing_both_shown = (refl, refl, refl, refl, refl, refl)

-- the faults in places, first of the histories above, and then of some with this fault or that
abbrev faulty : List (Parts (Unit {0}) × List (Kept (Unit {0})) × List Fault)
faulty =
    -- none
    (model, written, []) ∷ (model, counted, []) ∷ (model, all_owing_both, []) ∷ (model, transferred, []) ∷ (model, returned, [])
    ∷ (parting, parted, []) ∷ (nesting, nested, []) ∷ (loose, read_loosely, [])
    -- some; a commit that stands before the begin counts as an end, and the class only after the start
    ∷ (model, commit 1 ∷ begin 1 0 ∷ [], fault EndedAfterBegun 1 1 ∷ [])
    ∷ by model unruly
    (fault BegunOnce 2 1 ∷ fault OperatesInProgress 3 2 ∷ fault Conflict 4 1 ∷ fault FormOfEvent 5 1
    ∷ fault FormOfEvent 6 1 ∷ fault EndedOnce 8 1 ∷ fault FormOfEvent 9 65535 ∷ [])
    ∷ (model, unheld, fault Responsible 4 1 ∷ fault PartiesInProgress 6 1 ∷ fault Responsible 6 1 ∷ [])
    ∷ (model, unknown, fault Responsible 3 0 ∷ fault Responsible 3 1 ∷ fault Responsible 3 7 ∷ [])
    ∷ (model, partial, fault HandsWhole 7 1 ∷ fault HandsWhole 7 4 ∷ [])
    ∷ (model, own, fault FormOfEvent 3 1 ∷ [])
    ∷ (nesting, lined, fault BegunOnce 4 3 ∷ [])
    ∷ (nesting, bereft, fault PartiesInProgress 1 9 ∷ fault Heir 5 1 ∷ fault Heir 6 0 ∷ [])
    -- a return that is not the one due
    ∷ (model, begin 1 0 ∷ operate 1 0 Read (Value (pos 9)) ∷ [], fault Return 2 1 ∷ [])
    -- an operation with no return, and what is no operation with one
    ∷ by model
    (record { event = (begin 1 0).event; ret = Some Done } ∷ plain (operate 1 0 Read Done).event ∷ [])
    (fault Return 1 0 ∷ fault Return 2 1 ∷ [])
    -- classes that may not operate or start; one that is not there lacks nothing
    ∷ by model
    (begin 1 1 ∷ operate 1 0 Read (Value (pos 0)) ∷ begin 2 2 ∷ begin 3 7
    ∷ operate 3 0 Read (Value (pos 0)) ∷ commit 3 ∷ [])
    (fault Allowed 2 1 ∷ fault Allowed 3 2 ∷ fault FormOfEvent 4 3 ∷ [])
    -- edges of a begin kind that are formed when 2 has begun, and others when one of the two has ended
    ∷ by model
    (begin 1 3 ∷ begin 2 3 ∷ form Cd 2 1 ∷ form Bd 2 1 ∷ commit 2 ∷ form Cd 2 1 ∷ form Cd 1 2 ∷ abort 1
    ∷ form Cd 2 1 ∷ form Bcd 3 1 ∷ [])
    (fault FormedInTime 4 2 ∷ fault FormedInTime 6 2 ∷ fault FormedInTime 7 2 ∷ fault FormedInTime 9 1 ∷ [])
    -- an edge of one transaction on itself, and one whose number is bad
    ∷ (model, form Cd 1 1 ∷ form Cd 2 65535 ∷ [], fault FormOfEvent 1 1 ∷ fault FormOfEvent 2 2 ∷ [])
    -- an edge of or on one whose class may not form, and one where no class may; with no class none lacks it
    ∷ (model, begin 1 0 ∷ form Cd 2 1 ∷ form Cd 1 2 ∷ form Cd 3 2 ∷ [], fault Allowed 2 2 ∷ fault Allowed 3 1 ∷ [])
    ∷ (edgeless, form Cd 3 2 ∷ [], fault Allowed 1 3 ∷ [])
    -- what is handed over can't be handed over once more by the same
    ∷ (model, take 4 transferred ++ delegate 1 2 (1 ∷ []) ∷ [], fault Responsible 5 1 ∷ [])
    -- a delegation by one that is not in progress, to one, and by one that has ended to one that hasn't begun
    ∷ by model
    (begin 2 4 ∷ delegate 1 2 [] ∷ delegate 2 3 [] ∷ commit 2 ∷ delegate 2 3 [] ∷ [])
    (fault PartiesInProgress 2 1 ∷ fault PartiesInProgress 3 3 ∷ fault PartiesInProgress 5 2
    ∷ fault PartiesInProgress 5 3 ∷ [])
    ∷ (model, begin 1 0 ∷ begin 2 4 ∷ delegate 1 2 [] ∷ [], fault Allowed 3 1 ∷ [])  -- one whose class may not delegate
    -- a delegation of one to itself that is not in progress names it once
    ∷ (model, delegate 1 1 [] ∷ [], fault FormOfEvent 1 1 ∷ fault PartiesInProgress 1 1 ∷ [])
    -- a split by one that is not in progress, of an operation that it doesn't hold, and a join by one that never
    -- began to one that is not in progress; still the one that is split off has begun, and the one that joins has ended
    ∷ by parting
    (split 1 2 0 (1 ∷ []) ∷ join 3 1 ∷ begin 3 0 ∷ commit 3 ∷ begin 2 0 ∷ [])
    (fault PartiesInProgress 1 1 ∷ fault Responsible 1 1 ∷ fault EndedAfterBegun 2 3 ∷ fault PartiesInProgress 2 1
    ∷ fault EndedOnce 4 3 ∷ fault BegunOnce 5 2 ∷ [])
    -- a split by one whose class may not, one with a class that may not start so, and a join by one whose class may not
    ∷ by parting
    (begin 1 1 ∷ begin 2 0 ∷ split 1 3 0 [] ∷ split 2 4 1 [] ∷ join 1 2 ∷ [])
    (fault Allowed 3 1 ∷ fault Allowed 4 2 ∷ fault Allowed 5 1 ∷ [])
    -- a split that leaves something out, by one that has to hand over all
    ∷ by parting
    (begin 1 2 ∷ operate 1 0 (Write (pos 5)) Done ∷ operate 1 1 (Add (pos 5)) Done ∷ split 1 2 0 (1 ∷ []) ∷ [])
    (fault HandsWhole 4 2 ∷ [])
    ∷ []

faulty_shown : map (λ r. faults_in_places r.0 r.1) faulty ≡ map (λ r. r.2) faulty
unfolding breaches bad_number bad_class bad_object bad_operation same_transaction is_permitted
faulty_shown = refl

-- the edges
abbrev linked : List (Parts (Unit {0}) × List (Kept (Unit {0})) × List Edge)
linked =
    -- those formed, in order, each once, whatever else is wrong with them
    by model
    (form Cd 2 1 ∷ begin 2 3 ∷ form Ad 2 1 ∷ form Cd 2 1 ∷ form Cd 1 2 ∷ form Bd 2 1 ∷ form Cd 2 2
    ∷ form Ad 2 1 ∷ [])
    (edge Cd 2 1 ∷ edge Ad 2 1 ∷ edge Cd 1 2 ∷ edge Bd 2 1 ∷ edge Cd 2 2 ∷ [])
    ∷ (parting, split 1 2 9 [] ∷ [], [])  -- a class that is not in the model wants no edges
    -- a split and a spawn form the edges of their class, in both directions
    ∷ (parting, parted, edge Cd 1 2 ∷ edge Ad 2 1 ∷ [])
    ∷ (nesting, nested, edge Cd 1 2 ∷ edge Wd 2 1 ∷ [])
    ∷ (nesting, bereft, edge Cd 9 2 ∷ edge Wd 2 9 ∷ edge Cd 1 3 ∷ edge Wd 3 1 ∷ [])
    ∷ (loose, read_loosely, edge Ad 2 1 ∷ edge Td 2 1 ∷ edge Ad 2 3 ∷ edge Td 2 3 ∷ [])
    -- of the one that was handed it only, where the read stands behind the delegation
    ∷ by loose
    (begin 1 0 ∷ begin 2 0 ∷ begin 3 0 ∷ operate 1 0 (Write (pos 5)) Done ∷ delegate 1 3 (1 ∷ [])
    ∷ operate 2 0 Read (Value (pos 5)) ∷ [])
    (edge Ad 2 3 ∷ edge Td 2 3 ∷ [])
    -- two holders, ascending, each once
    ∷ by loose
    (begin 1 0 ∷ begin 2 0 ∷ begin 3 0 ∷ operate 3 0 (Write (pos 5)) Done ∷ operate 1 0 (Write (pos 5)) Done
    ∷ operate 3 0 (Write (pos 5)) Done ∷ operate 2 0 Read (Value (pos 5)) ∷ [])
    (edge Ad 2 1 ∷ edge Td 2 1 ∷ edge Ad 2 3 ∷ edge Td 2 3 ∷ [])
    -- none on an ancestor that is exempt, nor where the class refuses
    ∷ (loose, begin 1 0 ∷ spawn 1 2 1 ∷ operate 1 0 (Write (pos 5)) Done ∷ operate 2 0 Read (Value (pos 5)) ∷ [], [])
    ∷ (model, begin 1 0 ∷ begin 2 0 ∷ operate 1 0 (Write (pos 5)) Done ∷ operate 2 0 Read (Value (pos 5)) ∷ [], [])
    ∷ []

linked_shown : map (λ r. edges r.0 r.1) linked ≡ map (λ r. r.2) linked
unfolding is_permitted
linked_shown = refl

-- the objects x, n, m and s, and a class that may operate, commit and abort
abbrev strict : Parts (Unit {0})
strict = record {
  objects = record { name = []; kind = Register (pos 0) } ∷ record { name = []; kind = Counter (pos 0) } ∷ record { name = []; kind = Counter (pos 0) } ∷ record { name = []; kind = Elements } ∷ [];
  classes = class true 224 ∷ [];
}

-- 2 commits before 1: its group is first, though 1 began and operated before it; what 3 does is left out
abbrev crossed : List (Kept (Unit {0}))
crossed =
    begin 1 0 ∷ begin 2 0 ∷ begin 3 0 ∷ operate 1 1 (Add (pos 5)) Done ∷ operate 2 0 (Write (pos 1)) Done
    ∷ operate 2 1 (Add (pos 7)) Done ∷ operate 3 2 (Add (pos 9)) Done ∷ commit 2 ∷ operate 1 0 Read (Value (pos 1))
    ∷ commit 1 ∷ []

abbrev listed : ℕ → ℕ → ℕ → Op → Ret → SerialItem
listed number t object op ret =
    record { number = record { 0 = number }; txn = record { 0 = t }; ob = record { 0 = object }; op = op; ret = ret }

-- an aborted write is no part of it, and what others did beside it returns the same without it
abbrev cleared : List (Kept (Unit {0}))
cleared =
    begin 1 0 ∷ begin 2 0 ∷ operate 1 3 (Insert (pos 3)) (Flag true) ∷ operate 2 3 (Has (pos 4)) (Flag false)
    ∷ operate 2 3 (Insert (pos 5)) (Flag true) ∷ abort 1 ∷ operate 2 3 Size (Value (pos 1)) ∷ commit 2 ∷ []

serial_shown :
    (serial_items strict crossed
    ≡ listed 2 2 0 (Write (pos 1)) Done ∷ listed 3 2 1 (Add (pos 7)) Done ∷ listed 1 1 1 (Add (pos 5)) Done
    ∷ listed 5 1 0 Read (Value (pos 1)) ∷ [])
    × (replayed strict (serial_order strict crossed) ≡ Some Done ∷ Some Done ∷ Some Done ∷ Some (Value (pos 1)) ∷ [])
    × (serial_items strict cleared
    ≡ listed 2 2 3 (Has (pos 4)) (Flag false) ∷ listed 3 2 3 (Insert (pos 5)) (Flag true)
    ∷ listed 4 2 3 Size (Value (pos 1)) ∷ [])
    × (serial_items strict [] ≡ [])
    × (map is_strict (strict ∷ edgeless ∷ model ∷ parting ∷ nesting ∷ loose ∷ [])
    ≡ true ∷ true ∷ false ∷ false ∷ false ∷ false ∷ [])
serial_shown = (refl, refl, refl, refl, refl)
